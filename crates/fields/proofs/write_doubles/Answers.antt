-- `fields::write_doubles`: one double more, and none left.
use Rattle.std.proofs.Common.{◌≡◌, length, arith, ◌∙◌}
use Rattle.std.proofs.Math.Seq.{drop-length}
use Rattle.format.proofs.Equations.{f64s_le-nil}
use Rattle.fields.proofs.Turns.{write_turn}
use Rattle.fields.proofs.write_doubles.Goals as goal

pub loop-i-preserved : goal.loop-i-preserved
loop-i-preserved c =
    let a = c.args in
    let l = c.loop-i in
    rw c.put_le_f64.ensures (write_turn l.out a.at l.i a.xs.now _ (omega arith) ∙ l.invariant)

pub returns : goal.returns
returns c =
    let l = c.loop-i in
    let z : l.i ≡ length c.args.xs.now = omega arith in
    rw (z, drop-length, f64s_le-nil) at l.invariant
