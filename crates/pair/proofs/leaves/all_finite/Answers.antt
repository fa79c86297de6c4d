-- What is left of the doubles decides as all of them do.
use Rattle.std.proofs.Common.{sym, ◌∙◌}
use Rattle.pair.proofs.TurnLaws.{finites_go, finites_no, finites_done}
use Rattle.pair.proofs.leaves.all_finite.Goals as goal

pub returns-then-not-is_finite : goal.returns-then-not-is_finite
returns-then-not-is_finite c =
    let l = c.loop-i in
    sym (sym l.invariant ∙ finites_no c.args.s.now c.args.at c.args.n l.i c.loop-i-test.true (sym c.is_finite.ensures ∙ c.if-not-is_finite.true))

pub loop-i-preserved : goal.loop-i-preserved
loop-i-preserved c =
    let l = c.loop-i in
    finites_go c.args.s.now c.args.at c.args.n l.i c.loop-i-test.true (sym c.is_finite.ensures ∙ c.if-not-is_finite.false) ∙ l.invariant

pub returns : goal.returns
returns c = let l = c.loop-i in sym (sym l.invariant ∙ finites_done c.args.s.now c.args.at c.args.n l.i c.loop-i-test.false)
