-- What the calls are said to answer, as equations for the crates above.
use mathlib.Core.Path.{◌≡◌, refl}
use mathlib.Core.Bool.{◌&&◌}
use mathlib.Core.List.{List, [], ◌∷◌, ◌++◌}
use Prim.Native.Nat.{ℕ}
use lib.Dec.{leb}
use lib.Ieee.{Float}
use lib.ListN.{length}
use Rattle.format.specs.Order.{first}
use Rattle.format.specs.Said.{gives, room}
use Rattle.rings.specs.Answers.{run_of, run_tests, of_run, closed_of, turning_of, count_then, closing_of}
use Rattle.rings.specs.Points.{closed, turning}

module _ (xs ys : List Float) (n : ℕ) where
  pub closed-of : closed_of xs ys n ≡ of_run closed xs ys n
  unfolding closed_of
  closed-of = refl

  pub turning-of : turning_of xs ys n ≡ of_run turning xs ys n
  unfolding turning_of
  turning-of = refl

  pub closing-of : closing_of xs ys n
      ≡ first (run_tests xs ys n ++ ((leb (count_then (run_of xs ys n)) (length xs) && leb (count_then (run_of xs ys n)) (length ys), room 0 (count_then (run_of xs ys n))) ∷ [])) (gives (count_then (run_of xs ys n)))
  unfolding closing_of
  closing-of = refl
