-- What is left, and what the counts so far have taken, are n.
use Rattle.std.proofs.Common.{◌≡◌, ◌+◌, drop}
use Rattle.format.specs.Shapes.{sum}
use Rattle.format.proofs.shapes.sums_to.Given as goal

abbrev pub invariant-loop-count : goal.invariant-loop-count
invariant-loop-count l = l.left + sum l.counts ≡ l.n + sum (drop l.count-index l.counts)
