-- `multipart::store::store_m`: before the first value, and all of them raised.
use Rattle.std.proofs.Common.{◌≡◌, ◌+◌, ◌∙◌, map, arith}
use lib.ListN.{drop_of_length-le, length-map}
use lib.Seq.{length-take-le}
use Rattle.format.specs.Numbers.{doubles_at}
use Rattle.format.proofs.LayoutLaws.{sets_all}
use Rattle.format.proofs.NumberLaws.{length-doubles_at}
use Rattle.multipart.specs.Body.{raised}
use Rattle.multipart.proofs.StoreLaws.{front-back}
use Rattle.multipart.proofs.store.store_m.Goals as goal

pub loop-value-init : goal.loop-value-init
loop-value-init c =
    let room = rw c.if-m.true at c.requires.1 in
    rw (c.read_doubles.ensures, length-take-le _ c.args.ms.now room) (sets_all _ _ (length-map _ raised))

pub returns-after-loop-value : goal.returns-after-loop-value
returns-after-loop-value c =
    let a = c.args in
    let l = c.loop-value in
    let room = rw c.if-m.true at c.requires.1 in
    let all : l.value-items ≡ map raised (doubles_at 8 a.n (a.at + 16) a.s.now) = rw (drop_of_length-le l.value-items {i = l.value-index} (omega arith)) at l.invariant in
    rw (c.if-m.true, all) (front-back _ a.ms.now _ (length-map _ raised ∙ length-doubles_at 8 _ _ _) room)
