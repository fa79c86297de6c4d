-- At each record, and in each of its loops, what is left to do decides as the whole does.
use Rattle.std.proofs.Common.{length, ◌-◌, ◌≡◌, true, drop, ◌+◌, ◌*◌, ◌≤◌}
use Rattle.rules.specs.Rules.{parts_long, rings_closed, finites, none_yet, walk_from}
use Rattle.pair.specs.Plans.{taken_from}
use Rattle.pair.proofs.WalkLaws.{Walked}
use Rattle.pair.proofs.walk.Given as goal

abbrev pub invariant-loop-part : goal.invariant-loop-part
invariant-loop-part l =
    (l.own.least ≤ l.least_end) × (parts_long l.own.least (l.p - l.part) (56 + 4 * l.part) (l.least_end - l.own.least) l.n l.rest ≡ parts_long l.own.least l.p 56 0 l.n l.rest)

abbrev pub invariant-loop-ring : goal.invariant-loop-ring
invariant-loop-ring l =
    (parts_long l.own.least (l.rings - l.ring) (56 + 4 * l.ring) l.from l.n l.rest ≡ true)
    × (rings_closed l.pairs (l.rings - l.ring) (56 + 4 * l.ring) l.from l.n l.rest ≡ rings_closed l.pairs l.rings 56 0 l.n l.rest)

abbrev pub invariant-loop-corner : goal.invariant-loop-corner
invariant-loop-corner l = finites (l.corner-end - l.corner) (12 + 8 * l.corner) l.rest ≡ finites l.corner-end 12 l.rest

abbrev pub invariant-loop-double : goal.invariant-loop-double
invariant-loop-double l = finites (l.double-end - l.double) (l.pairs + 8 * l.double) l.rest ≡ finites l.double-end l.pairs l.rest

abbrev pub invariant-walk : goal.invariant-walk
invariant-walk l =
    Walked l.plan l.shp l.shx l.at l.ix l.totals.records l.totals.parts l.totals.points (walk_from (taken_from l.plan) (drop 100 l.shp) (drop 100 l.shx) 100 none_yet)

abbrev pub decreases-walk : goal.decreases-walk
decreases-walk l = length l.shp - l.at
