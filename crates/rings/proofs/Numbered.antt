-- The refusals of each call of "Rings" have document 01's numbers.
use mathlib.Core.Bool.{◌&&◌}
use mathlib.Core.List.{List, [], ◌∷◌, ◌++◌}
use Prim.Native.Nat.{ℕ}
use native.Mathlib.Omega.{arith}
use lib.Dec.{leb}
use lib.Ieee.{Float}
use lib.ListN.{length}
use Rattle.format.specs.Said.{gives, room, Numbered}
use Rattle.format.proofs.OrderLaws.{first_numbered}
use Rattle.rings.specs.Points.{Point, closed, turning}
use Rattle.rings.specs.Answers.{run_of, run_tests, of_run, closed_of, turning_of, count_then, closing_of}

module _ (xs ys : List Float) (n : ℕ) where
  run_numbered : {A : Type 0} (what : List Point → A) → Numbered (of_run what xs ys n)
  run_numbered what = first_numbered (run_tests xs ys n) (gives (what (run_of xs ys n))) (omega arith) tt

  pub closed_numbered : Numbered (closed_of xs ys n)
  unfolding closed_of
  closed_numbered = run_numbered closed

  pub turning_numbered : Numbered (turning_of xs ys n)
  unfolding turning_of
  turning_numbered = run_numbered turning

  pub closing_numbered : Numbered (closing_of xs ys n)
  unfolding closing_of
  closing_numbered =
      let m = count_then (run_of xs ys n) in
      first_numbered (run_tests xs ys n ++ ((leb m (length xs) && leb m (length ys), room 0 m) ∷ [])) (gives m) (omega arith) tt
