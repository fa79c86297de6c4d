-- What holds of the state behind every series of calls from a fresh one: its total of points is the sum over the accepted shapes, and it is never
-- one that is refused with 3.
use Rattle.std.specs.Prelude.{◌≡◌, List, ℕ, Result, Ok, Err, IsErr}
use Rattle.rules.specs.Meaning.{all_points}
use Rattle.writer.specs.declared.State.{State}
use Rattle.writer.specs.declared.Adding.{Adding}
use Rattle.writer.specs.declared.AddError.TheVariants.{Size}
use Rattle.writer.specs.declared.Headers.{Headers}
use Rattle.writer.specs.declared.NoState.{NoState}
use Rattle.writer.specs.Adding.{Lent, Adds}
use Rattle.writer.specs.Finishing.{Finishes}
use Rattle.writer.specs.State.{fresh}
use Rattle.appending.specs.OneMore.{Behind, state_kind}
use Rattle.series.specs.Series.{Call, Made, state_after, accepted}

-- the total of points is the sum over the accepted shapes
abbrev pub Totals : Type 0
Totals = (calls : List Call) → Made fresh calls → (state_after fresh calls).points ≡ all_points (accepted calls)

-- no call on this state is refused with 3, whatever is lent
pub record NeverSize (s : State) : Type 0 where
  pub adding : (t : Lent) (out : List ℕ) (start : ℕ) (entry : List ℕ) (r : Adding) (out' entry' : List ℕ)
      → Adds s t out start entry r out' entry' → r.answer ≡ Err Size → ⊥
  pub finishing : (r : Result Headers NoState) → Finishes s r → IsErr r → ⊥

-- a fresh state is not, nor one that comes out of an accepted add, whatever state went in, nor one behind a series
pub record StatesServe : Type 0 where
  pub at_first : NeverSize fresh
  pub added : (s : State) (t : Lent) (out : List ℕ) (start : ℕ) (entry : List ℕ) (r : Adding) (out' entry' : List ℕ) (n : ℕ)
      → Adds s t out start entry r out' entry' → r.answer ≡ Ok n → NeverSize r.state
  pub after : (calls : List Call) → Made fresh calls → NeverSize (state_after fresh calls)

-- all of the state but its box: it is the one behind the accepted shapes
abbrev pub BehindAccepted : Type 0
BehindAccepted = (calls : List Call) → Made fresh calls → Behind (state_kind (state_after fresh calls)) (accepted calls) (state_after fresh calls)
