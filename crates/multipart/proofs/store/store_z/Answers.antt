-- `multipart::store::store_z`: the front that was lent comes back with the doubles.
use lib.Seq.{length-take-le}
use Rattle.format.proofs.NumberLaws.{length-doubles_at}
use Rattle.multipart.proofs.StoreLaws.{front-back}
use Rattle.multipart.proofs.store.store_z.Goals as goal

pub returns-then-z : goal.returns-then-z
returns-then-z c =
    let zs = c.args.zs.now in
    let room = rw c.if-z.true at c.requires.1 in
    rw (c.if-z.true, c.read_doubles.ensures, length-take-le _ zs room) (front-back _ zs _ (length-doubles_at 8 _ _ _) room)
