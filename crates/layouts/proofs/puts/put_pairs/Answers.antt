-- One turn is the pair that it stores and the pairs that are left after it.
use Rattle.std.proofs.Common.{◌≡◌, length, ◌∙◌, arith}
use Rattle.std.proofs.Math.Seq.{drop-length}
use Rattle.std.proofs.lemmas.Iterator.{YieldsList-from_slice, YieldsList-from_zip}
use Rattle.std.proofs.lemmas.Iterator.Consumers.{YieldsList-from_enumerate, YieldsList-turn, YieldsList-end}
use Rattle.std.proofs.lemmas.List.{length_push}
use Rattle.std.proofs.lemmas.List.FromFn.{length-enumerate_from}
use Rattle.std.proofs.lemmas.Slice.Zip.{length-zip}
use Rattle.std.specs.List.{zip}
use mathlib.Core.List.{flatten}
use Rattle.layouts.proofs.Turns.{pair_at, pairs_turn}
use Rattle.layouts.proofs.puts.put_pairs.Goals as goal

pub loop-i-preserved : goal.loop-i-preserved
loop-i-preserved c =
    let l = c.loop-i in
    let xs = c.args.xs.now in
    let ys = c.args.ys.now in
    let run = YieldsList-from_enumerate {s = c.into_iter-i-iterator.result} (YieldsList-from_zip (YieldsList-from_slice xs cc) (YieldsList-from_slice ys cc)) (cc) in
    let t = YieldsList-turn run l.yielded l.i-iterator l.yielded_by _ c.next.new.self _ c.in-Some.is c.next.ensures.steps in
    let at = pair_at xs ys (length l.yielded) c.in-Some.i c.in-Some.x.now c.in-Some.y.now c.requires.0 t.0 t.1 in
    record {
      as_long = c.put_le_f64-in-loop-i.auto.out ∙ (c.put_le_f64.auto.out ∙ l.invariant.as_long);
      stored = pairs_turn l.out c.put_le_f64.new.out _ c.args.at (length l.yielded) c.in-Some.i _ xs ys c.in-Some.x.now c.in-Some.y.now at.1 (length_push l.yielded _) at.2 at.3 c.put_le_f64.ensures c.put_le_f64-in-loop-i.ensures ∙ l.invariant.stored;
    }

pub returns : goal.returns
unfolding flatten
returns c =
    let l = c.loop-i in
    let xs = c.args.xs.now in
    let ys = c.args.ys.now in
    let run = YieldsList-from_enumerate {s = c.into_iter-i-iterator.result} (YieldsList-from_zip (YieldsList-from_slice xs cc) (YieldsList-from_slice ys cc)) (cc) in
    let t = YieldsList-end run l.yielded l.i-iterator l.yielded_by _ c.next.new.self c.in-None.is c.next.ensures.steps in
    let z : length l.yielded ≡ length xs = omega (arith, t.1, length-enumerate_from 0 (zip xs ys), length-zip xs ys) in
    rw (z, drop-length) at l.invariant.stored
