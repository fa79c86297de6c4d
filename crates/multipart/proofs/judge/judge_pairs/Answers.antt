-- `multipart::judge::judge_pairs`: of parts the starts, then each part; of a multipoint its pairs.
use Rattle.std.proofs.Common.{sym, ap, arith, nat_abs}
use Rattle.multipart.proofs.CountLaws.{number_small}
use Rattle.multipart.proofs.RestLaws.{starts_cut, parts_found, points_cut, points_found}
use Rattle.multipart.proofs.TestLaws.{told_err}
use Rattle.multipart.proofs.judge.judge_pairs.Goals as goal

pub returns-in_err-starts_end : goal.returns-in_err-starts_end
returns-in_err-starts_end c =
    let known = rw c.if-parts.true at c.requires in
    rw (told_err _ _ c.from_residual.ensures.1, c.if-parts.true) (starts_cut _ _ known.long known.parts_are _ c.in_err-starts_end.ensures)

pub returns-in_err-fields_end : goal.returns-in_err-fields_end
returns-in_err-fields_end c =
    let known = rw c.if-parts.false at c.requires in
    rw (told_err _ _ c.from_residual-in_err-fields_end.ensures.1, c.if-parts.false)
    (points_cut _ _ (ap nat_abs (sym known.number_is)) known.long _ c.in_err-fields_end.ensures)

pub judge_parts-requires : goal.judge_parts-requires
judge_parts-requires c =
    let known = rw c.if-parts.true at c.requires in
    (omega (arith, c.in_ok-starts_end.ensures), number_small _ _ _ known.number_is)

pub returns-in_ok-starts_end : goal.returns-in_ok-starts_end
returns-in_ok-starts_end c =
    let known = rw c.if-parts.true at c.requires in
    rw c.if-parts.true (parts_found _ _ known.long known.parts_are _ c.in_ok-starts_end.ensures _ c.judge_parts.result (sym known.number_is) c.judge_parts.ensures)

pub returns-in_ok-fields_end : goal.returns-in_ok-fields_end
returns-in_ok-fields_end c =
    let known = rw c.if-parts.false at c.requires in
    rw c.if-parts.false (points_found _ _ (ap nat_abs (sym known.number_is)) (omega (arith, c.in_ok-fields_end.ensures)))
