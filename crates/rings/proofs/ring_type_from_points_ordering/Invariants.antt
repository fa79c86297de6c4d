-- What is left to add from the neighbours of point i on makes the whole sum.
use Rattle.std.proofs.Common.{◌≡◌, ◌-◌}
use Rattle.rings.specs.Points.{number, products, plus}
use Rattle.rings.proofs.PointLaws.{points_from}
use Rattle.rings.proofs.ring_type_from_points_ordering.Given as goal

abbrev pub invariant-loop-i : goal.invariant-loop-i
invariant-loop-i l =
    plus l.sum (products (points_from l.xs l.ys (l.i - 1) (l.n - (l.i - 1)))) ≡ plus (number 0) (products (points_from l.xs l.ys 0 l.n))
