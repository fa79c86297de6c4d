-- `fields::put_be`: one byte more, and none left.
use Rattle.std.proofs.Common.{◌≡◌, arith, ◌∙◌}
use Rattle.format.proofs.Equations.{be_bytes-zero}
use Rattle.fields.proofs.Turns.{put_be_turn}
use Rattle.fields.proofs.put_be.Goals as goal

pub loop-i-preserved : goal.loop-i-preserved
loop-i-preserved c =
    put_be_turn c.loop-i.out c.args.at c.loop-i.i c.loop-i.v (omega arith) ∙ c.loop-i.invariant

pub returns : goal.returns
returns c =
    let z : c.loop-i.i ≡ 0 = omega arith in
    rw (z, be_bytes-zero) at c.loop-i.invariant
