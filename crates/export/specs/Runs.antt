-- What is told of a run of points, as a number, and closing it.
use Rattle.std.specs.Prelude.{◌≡◌, Bool, false, cond, List, ℕ, Float}
use Rattle.format.specs.Said.{Said, unless_refused}
use Rattle.rings.specs.Answers.{closing_of, x_then, y_then}
use Rattle.rings.specs.Points.{Turning, outer, inner}
use Rattle.export.specs.declared.refusals.Refusal.{Refusal}
use Rattle.export.specs.declared.runs.Told.{Told}
use Rattle.export.specs.Refusals.{refusal_of, or_else}

abbrev pub told : Refusal → ℕ → Told
told refusal value = record { refusal = refusal; value = value }

-- 1 for a run that is closed
abbrev pub closed_told : Said Bool → Told
closed_told said = told (refusal_of said) (cond (or_else false said) 1 0)

-- 1 for an inner ring
abbrev pub turning_number : Turning → ℕ
turning_number outer = 0
turning_number inner = 1

abbrev pub turning_told : Said Turning → Told
turning_told said = told (refusal_of said) (turning_number (or_else outer said))

-- the points of the closed run
abbrev pub closing_told : Said ℕ → Told
closing_told said = told (refusal_of said) (or_else 0 said)

pub record ClosesRun (xs ys : List Float) (n : ℕ) (r : Told) (xs' ys' : List Float) : Type 0 where
  pub answer_is : r ≡ closing_told (closing_of xs ys n)
  pub x_is : xs' ≡ unless_refused (closing_of xs ys n) xs (x_then xs ys n)
  pub y_is : ys' ≡ unless_refused (closing_of xs ys n) ys (y_then xs ys n)
