-- Adding a record and finishing: the refusal, what was made, and what the buffers then hold.
use Rattle.std.specs.Prelude.{◌≡◌, cond, List, ℕ, length, replicate}
use Rattle.std.proofs.lemmas.List.Edits.{sets}
use Rattle.format.specs.Said.{Said, gives, wrong_size, unless_refused}
use Rattle.writer.specs.declared.Headers.{Headers}
use Rattle.writer.specs.declared.State.{State}
use Rattle.writer.specs.Adding.{Lent, adding_of, next_state, record_of, entry_of}
use Rattle.writer.specs.Finishing.{shp_header, shx_header}
use Rattle.writer.specs.State.{state_fine}
use Rattle.export.specs.declared.writing.Added.{Added}
use Rattle.export.specs.declared.writing.Finished.{Finished}
use Rattle.export.specs.declared.writing.Written.{Written}
use Rattle.export.specs.Refusals.{refusal_of, or_else}

-- ---- adding

-- the answer where the state is lent
abbrev pub written : Said ℕ → Written
written said = record { refusal = refusal_of said; bytes = or_else 0 said }

-- the answer with the state after the call
abbrev pub added : Said ℕ → State → Added
added said s = record { refusal = refusal_of said; bytes = or_else 0 said; state = s }

-- that answer with the lent state after the call
abbrev pub added_with : Written → State → Added
added_with w s = record { refusal = w.refusal; bytes = w.bytes; state = s }

-- what adding says, with these buffers
abbrev pub said_of : State → Lent → List ℕ → ℕ → List ℕ → Said ℕ
said_of s t out start entry = adding_of s t (length out) start (length entry)

-- a refusal leaves the state and both buffers as they were
pub record AddsRecord (s : State) (t : Lent) (out : List ℕ) (start : ℕ) (entry : List ℕ) (r : Added) (out' entry' : List ℕ) : Type 0 where
  pub answer_is : r ≡ added (said_of s t out start entry) (unless_refused (said_of s t out start entry) s (next_state s t))
  pub out_is : out' ≡ unless_refused (said_of s t out start entry) out (sets out start (record_of s t))
  pub entry_is : entry' ≡ unless_refused (said_of s t out start entry) entry (sets entry 0 (entry_of s t))

-- ---- finishing

abbrev pub no_headers : Headers
no_headers = record { shp = replicate 100 0; shx = replicate 100 0 }

abbrev pub headers_finished : Said Headers → Finished
headers_finished said =
    record { refusal = refusal_of said; shp = (or_else no_headers said).shp; shx = (or_else no_headers said).shx }

-- what is no writer state is 3
abbrev pub finishing_of : State → Said (Unit {0})
finishing_of s = cond (state_fine s) (gives tt) (wrong_size 0)

abbrev pub finished : State → Finished
finished s =
    record {
      refusal = refusal_of (finishing_of s);
      shp = cond (state_fine s) (shp_header s) (replicate 100 0);
      shx = cond (state_fine s) (shx_header s) (replicate 100 0);
    }
