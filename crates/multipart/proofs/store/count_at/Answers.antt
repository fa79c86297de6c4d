-- `multipart::store::count_at`: the count that was told, and none where the part is refused.
use Rattle.std.proofs.Common.{w32}
use Rattle.std.proofs.lemmas.Int.{to_z-of_z}
use Rattle.multipart.proofs.PartLaws.{count_told}
use Rattle.multipart.proofs.store.count_at.Goals as goal

pub returns : goal.returns
returns c =
    let told = rw (to_z-of_z w32 c.args.n c.ranges.n) at c.part_at.ensures in
    rw c.unwrap_or.ensures (count_told _ _ _ told)
