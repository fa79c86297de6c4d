-- One turn is the start that it stores and the starts that are left after it.
use Rattle.std.proofs.Common.{◌≡◌, length, ◌∙◌, arith}
use Rattle.std.proofs.Math.Seq.{drop-length}
use Rattle.format.proofs.LayoutLaws.{sum_drop}
use Rattle.layouts.specs.Steps.{starts_bytes}
use Rattle.layouts.proofs.Turns.{starts_turn}
use Rattle.layouts.proofs.puts.put_starts.Goals as goal

pub loop-i-preserved : goal.loop-i-preserved
loop-i-preserved c =
    let l = c.loop-i in
    let counts = c.args.counts.now in
    record {
      as_long = c.put_le.auto.out ∙ l.invariant.as_long;
      counted = omega (arith, sum_drop counts l.i c.loop-i-test.true, c.from-start.ensures);
      stored = rw (c.put_le.ensures, c.from-start.ensures) (starts_turn l.out c.args.at l.i l.start counts c.loop-i-test.true ∙ l.invariant.stored);
    }

pub returns : goal.returns
unfolding starts_bytes
returns c =
    let l = c.loop-i in
    let z : l.i ≡ length c.args.counts.now = omega arith in
    rw (z, drop-length) at l.invariant.stored
