-- `multipart::store::store_counts`: the counts that are left to store complete the store's front.
use Rattle.std.proofs.Common.{◌≡◌, ◌+◌, ◌*◌, ◌-◌, map, pos}
use lib.Seq.{sets}
use Rattle.multipart.specs.Parts.{count_of}
use Rattle.multipart.specs.Walks.{differences_of}
use Rattle.multipart.proofs.PartLaws.{differences_from}
use Rattle.multipart.proofs.store.store_counts.Given as goal

abbrev pub invariant-loop-i : goal.invariant-loop-i
invariant-loop-i l =
    sets l.count-items l.i (map count_of (differences_from (l.said.parts - l.i) (40 + 4 * l.i) (pos l.said.points) l.s)) ≡ map count_of (differences_of l.said.parts (pos l.said.points) l.s)
