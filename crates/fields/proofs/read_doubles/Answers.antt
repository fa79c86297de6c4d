-- `fields::read_doubles`: before the first, one double more, and none left.
use Rattle.std.proofs.Common.{◌+◌, ◌*◌, length, arith, ◌∙◌}
use Rattle.std.proofs.Math.Nat.{add-zero, sub-zero}
use Rattle.format.proofs.LayoutLaws.{sets_all}
use Rattle.format.proofs.NumberLaws.{length-doubles_at, doubles_end, doubles_turn}
use Rattle.fields.proofs.read_doubles.Goals as goal

pub loop-i-init : goal.loop-i-init
loop-i-init c =
    let a = c.args in
    rw (sub-zero, add-zero) (sets_all _ _ (length-doubles_at 8 (length a.out.now) a.at a.s.now))

pub loop-i-preserved : goal.loop-i-preserved
loop-i-preserved c =
    let a = c.args in
    let l = c.loop-i in
    rw c.le_f64_at.ensures (doubles_turn 8 l.out (length a.out.now) a.at l.i a.s.now (omega arith) ∙ l.invariant)

pub returns : goal.returns
returns c =
    let a = c.args in
    let l = c.loop-i in
    rw (doubles_end 8 (length a.out.now) (a.at + 8 * l.i) l.i a.s.now (omega arith)) at l.invariant
