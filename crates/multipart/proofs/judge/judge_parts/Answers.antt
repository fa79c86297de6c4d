-- `multipart::judge::judge_parts`: at each turn, what is left of the parts' tests has the answer.
use Rattle.std.proofs.Common.{◌≡◌, ◌+◌, ◌*◌, ◌-◌, arith, w32}
use Rattle.std.proofs.lemmas.Int.{to_z_pos}
use Rattle.multipart.proofs.TestLaws.{told_err}
use Rattle.multipart.proofs.WalkLaws.{judging_refused, judging_cut, judging_on, judging_last}
use Rattle.multipart.proofs.judge.judge_parts.Goals as goal

pub returns-in_default : goal.returns-in_default
returns-in_default c =
    let told = rw (to_z_pos w32 c.args.said.points c.requires.1) at c.in_default.ensures in
    judging_refused _ _ _ _ _ _ _ c.loop-i.invariant (omega arith) told

pub returns-in_err-at : goal.returns-in_err-at
returns-in_err-at c =
    let told = rw (to_z_pos w32 c.args.said.points c.requires.1) at c.in-Some.ensures in
    rw (told_err _ _ c.from_residual.ensures.1) (judging_cut _ _ _ _ _ _ _ c.loop-i.invariant (omega arith) _ told _ c.in_err-at.ensures)

pub loop-i-preserved : goal.loop-i-preserved
loop-i-preserved c =
    let i = c.loop-i.i in
    let left : c.args.said.parts - i - 1 ≡ c.args.said.parts - (i + 1) = omega arith in
    let start : 40 + 4 * i + 4 ≡ 40 + 4 * (i + 1) = omega arith in
    let told = rw (to_z_pos w32 c.args.said.points c.requires.1) at c.in-Some.ensures in
    rw (left, start) at (judging_on _ _ _ _ _ _ _ c.loop-i.invariant (omega arith) _ told _ c.in_ok-at.ensures)

pub returns : goal.returns
returns c = judging_last _ _ _ _ _ _ _ c.loop-i.invariant (omega arith)
