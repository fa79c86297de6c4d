-- `multipart::store::store_m`: the values that are left to raise complete the store's front.
use Rattle.std.proofs.Common.{◌≡◌, ◌+◌, map, drop}
use lib.Seq.{sets}
use Rattle.format.specs.Numbers.{doubles_at}
use Rattle.multipart.specs.Body.{raised}
use Rattle.multipart.proofs.store.store_m.Given as goal

abbrev pub invariant-loop-value : goal.invariant-loop-value
invariant-loop-value l =
    sets l.value-items l.value-index (map raised (drop l.value-index l.value-items)) ≡ map raised (doubles_at 8 l.n (l.at + 16) l.s)
