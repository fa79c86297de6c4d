-- The calls for C and Rust are calls of a series: what is stated of an evening holds where records are added and headers finished through them. The check
-- is one already: `ChecksPair`, the contract of `mbenaruul_check_pair`, holds `Checks` of the verdict that its struct stands for.
use Rattle.std.specs.Prelude.{◌≡◌, List, ℕ}
use Rattle.writer.specs.declared.State.{State}
use Rattle.writer.specs.declared.Adding.{Adding}
use Rattle.writer.specs.Adding.{Lent, said_add, Adds}
use Rattle.writer.specs.Finishing.{Finishes}
use Rattle.export.specs.declared.writing.Added.{Added}
use Rattle.export.specs.declared.writing.Finished.{Finished}
use Rattle.export.specs.Refusals.{refusal_of}
use Rattle.export.specs.Writing.{AddsRecord, finished}
use Rattle.evening.specs.Evening.{Finishing, bytes_said, shp_front, shx_front}

-- An add through `mbenaruul_add_record`, or through `mbenaruul_write_shape` with the state behind it, is an add of a series: the same buffers, the same
-- state behind it, the refusal, and as many bytes.
pub record IsAdd (s : State) (t : Lent) (out : List ℕ) (start : ℕ) (entry : List ℕ) (r : Added) (out' entry' : List ℕ) : Type 0 where
  pub back : Adding
  pub adds : Adds s t out start entry back out' entry'
  pub state_is : r.state ≡ back.state
  pub bytes_are : r.bytes ≡ bytes_said (said_add back.answer)
  pub refusal_is : r.refusal ≡ refusal_of (said_add back.answer)

abbrev pub AddsForC : Type 0
AddsForC =
    (s : State) (t : Lent) (out : List ℕ) (start : ℕ) (entry : List ℕ) (r : Added) (out' entry' : List ℕ)
    → AddsRecord s t out start entry r out' entry' → IsAdd s t out start entry r out' entry'

-- and a finishing through `mbenaruul_finish` is a finishing of a series: the same headers
pub record IsFinishing (s : State) (r : Finished) : Type 0 where
  pub back : Finishing
  pub finishes : Finishes s back
  pub shp_is : r.shp ≡ shp_front back
  pub shx_is : r.shx ≡ shx_front back

abbrev pub FinishesForC : Type 0
FinishesForC = (s : State) (r : Finished) → r ≡ finished s → IsFinishing s r
