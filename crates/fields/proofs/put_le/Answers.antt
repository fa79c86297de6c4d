-- `fields::put_le`: one byte more, and none left.
use Rattle.std.proofs.Common.{◌≡◌, ◌-◌, arith, ◌∙◌}
use Rattle.format.proofs.Equations.{le_bytes_zero}
use Rattle.fields.proofs.Turns.{put_le_turn}
use Rattle.fields.proofs.put_le.Goals as goal

pub loop-i-preserved : goal.loop-i-preserved
loop-i-preserved c =
    put_le_turn c.loop-i.out c.args.k c.args.at c.loop-i.i c.loop-i.v (omega arith) ∙ c.loop-i.invariant

pub returns : goal.returns
returns c =
    let z : c.args.k - c.loop-i.i ≡ 0 = omega arith in
    rw (z, le_bytes_zero) at c.loop-i.invariant
