-- What is left of the doubles decides as all of them do.
use Rattle.std.proofs.Common.{◌≡◌, ◌+◌, ◌*◌, ◌-◌}
use Rattle.rules.specs.Rules.{finites}
use Rattle.pair.proofs.leaves.all_finite.Given as goal

abbrev pub invariant-loop-i : goal.invariant-loop-i
invariant-loop-i l = finites (l.n - l.i) (l.at + 8 * l.i) l.s ≡ finites l.n l.at l.s
