-- `rings::close_points_if_not_already` meets its contract: each answer of `is_part_closed` has its law.
use Rattle.std.proofs.Common.{◌≡◌, false, inl, inr}
use Rattle.std.proofs.lemmas.Result.{err_from_is_err_and}
use Rattle.format.specs.Said.{gives}
use Rattle.rings.specs.Answers.{closed_of}
use Rattle.rings.proofs.AnswerLaws.{past_store, stays, no_room_left, gets_first}
use Rattle.rings.proofs.close_points_if_not_already.Goals as goal
use Rattle.rings.proofs.close_points_if_not_already.Goals.{Else-n-eq0}

pub returns-in_err-is_part_closed : goal.returns-in_err-is_part_closed
returns-in_err-is_part_closed c =
    let p = err_from_is_err_and c.from_residual.result c.from_residual.ensures.1 in
    rw (p.1, p.2) (past_store _ _ _ c.in_err-is_part_closed.ensures.answered)

pub returns-then-branch : goal.returns-then-branch
returns-then-branch c = stays _ _ _ _ c.in_ok-is_part_closed.ensures.answered c.then-branch.either

-- a run that is left to close
left_open : (c : Else-n-eq0) → (let a = c.args in gives false ≡ closed_of a.xs.now a.ys.now a.n)
left_open c = rw c.if-branch.false at c.in_ok-is_part_closed.ensures.answered

pub returns-then-xs-n : goal.returns-then-xs-n
returns-then-xs-n c = no_room_left _ _ _ (left_open (goal.at.returns-then-xs-n c).Else-n-eq0) c.if-n-eq0.false (inl c.if-xs-n.true)

pub returns-then-ys-n : goal.returns-then-ys-n
returns-then-ys-n c = no_room_left _ _ _ (left_open (goal.at.returns-then-ys-n c).Else-n-eq0) c.if-n-eq0.false (inr (c.if-xs-n.false, c.if-ys-n.true))

pub returns : goal.returns
returns c = gets_first _ _ _ (left_open (goal.at.returns c).Else-n-eq0) c.if-n-eq0.false c.if-xs-n.false c.if-ys-n.false
