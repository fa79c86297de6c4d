-- Each field goes in right behind the one before it.
use Rattle.std.proofs.Common.{length, sym, ◌∙◌, arith}
use Rattle.layouts.proofs.BodyLaws.{room_for, measure_fits, body-stored}
use Rattle.layouts.proofs.TableLaws.{sum-held}
use Rattle.layouts.proofs.puts.put_body.Goals as goal

pub put_front-requires : goal.put_front-requires
put_front-requires c =
    let p = c.requires in
    (omega (arith, room_for _ _ _ _ _ _ _ _ _ p), sum-held c.args.layout.parts c.args.t.now.counts.now c.args.t.now.xs.now p.held)

pub put_pairs-requires : goal.put_pairs-requires
put_pairs-requires c =
    let p = c.requires in
    (p.agreed.ys_has ∙ sym p.agreed.xs_has, omega (arith, room_for _ _ _ _ _ _ _ _ _ p))

pub put_measure-requires : goal.put_measure-requires
put_measure-requires c =
    let p = c.requires in
    measure_fits c.args.layout.z c.args.t.now.zs.now (length c.args.t.now.xs.now) _ (length c.put_pairs.new.out) (rw p.agreed.xs_has p.agreed.zs_has) (omega (arith, room_for _ _ _ _ _ _ _ _ _ p))

pub put_measure-requires-2 : goal.put_measure-requires-2
put_measure-requires-2 c =
    let p = c.requires in
    measure_fits c.args.layout.m c.args.t.now.ms.now (length c.args.t.now.xs.now) _ (length c.put_measure.new.out) (rw p.agreed.xs_has p.agreed.ms_has) (omega (arith, room_for _ _ _ _ _ _ _ _ _ p))

pub returns : goal.returns
returns c =
    body-stored _ _ _ _ _ _ _ _ _ c.requires.agreed _ _ _ c.front_size-pairs_at.ensures c.requires.agreed.xs_has c.measure_size.ensures _ c.put_front.new.out c.put_pairs.new.out c.put_measure.new.out c.put_measure-2.new.out
    c.put_front.ensures
    c.put_pairs.ensures
    c.put_measure.ensures
    c.put_measure-2.ensures
