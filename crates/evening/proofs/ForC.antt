-- The calls for C and Rust are calls of a series.
use mathlib.Core.Path.{◌≡◌, refl, sym, ap, ◌∙◌}
use mathlib.Core.Bool.{Bool, true, false}
use Prim.Native.Nat.{ℕ}
use lib.ListN.{length}
use lib.Seq.{sets}
use Rattle.format.specs.Said.{Said, gives, refuses, unless_refused}
use Rattle.writer.specs.Adding.{record_of, entry_of, next_state, adding}
use Rattle.std.specs.Prelude.{Ok, Err}
use Rattle.writer.specs.Finishing.{headers_of}
use Rattle.writer.specs.State.{state_fine}
use Rattle.writer.proofs.Determined.{add_answer}
use Rattle.export.specs.declared.writing.Added.{Added}
use Rattle.export.specs.declared.writing.Finished.{Finished}
use Rattle.export.specs.Refusals.{refusal_of, or_else}
use Rattle.export.specs.Writing.{said_of}
use Rattle.evening.specs.Evening.{bytes_said}
use Rattle.evening.specs.ForC.{AddsForC, IsFinishing, FinishesForC}

given-bytes : (said : Said ℕ) → or_else 0 said ≡ bytes_said said
given-bytes (gives n) = refl
given-bytes (refuses n vs) = refl

pub adds_for_c : AddsForC
adds_for_c s t out start entry r out' entry' c =
    let a = add_answer s t (length out) start (length entry) in
    let said = said_of s t out start entry in
    record {
      back = adding a.0 (unless_refused said s (next_state s t));
      adds =
          record {
            says = a.1;
            state_is = ap (λ (x : Said ℕ). unless_refused x s (next_state s t)) (sym a.1);
            out_is = c.out_is ∙ ap (λ (x : Said ℕ). unless_refused x out (sets out start (record_of s t))) (sym a.1);
            entry_is = c.entry_is ∙ ap (λ (x : Said ℕ). unless_refused x entry (sets entry 0 (entry_of s t))) (sym a.1);
          };
      state_is = ap (λ (x : Added). x.state) c.answer_is;
      bytes_are = ap (λ (x : Added). x.bytes) c.answer_is ∙ (given-bytes said ∙ ap bytes_said (sym a.1));
      refusal_is = ap (λ (x : Added). x.refusal) c.answer_is ∙ ap refusal_of (sym a.1);
    }

pub finishes_for_c : FinishesForC
finishes_for_c s r e = by (state_fine s) refl
  where
    by : (b : Bool) → state_fine s ≡ b → IsFinishing s r
    by true f = record { back = Ok (headers_of s); finishes = record { says = rw f }; shp_is = ap (λ (x : Finished). x.shp) e ∙ rw f; shx_is = ap (λ (x : Finished). x.shx) e ∙ rw f }
    by false f = record { back = Err (record {}); finishes = record { says = rw f }; shp_is = ap (λ (x : Finished). x.shp) e ∙ rw f; shx_is = ap (λ (x : Finished). x.shx) e ∙ rw f }
