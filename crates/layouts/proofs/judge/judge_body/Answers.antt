-- Each return has its law, from what the tests before it found.
use Rattle.std.proofs.Common.{sym, ◌∙◌}
use Rattle.layouts.proofs.JudgeLaws.{disagree, too_long, no_room, has_room}
use Rattle.layouts.proofs.judge.judge_body.Goals as goal

pub returns-then-not-agree : goal.returns-then-not-agree
returns-then-not-agree c = disagree _ _ _ _ _ _ _ _ _ (sym c.agree.ensures ∙ c.if-not-agree.true)

pub returns-then-not-held : goal.returns-then-not-held
returns-then-not-held c = too_long _ _ _ _ _ _ _ _ _ (sym c.agree.ensures ∙ c.if-not-agree.false) (sym c.held.ensures ∙ c.if-not-held.true)

pub returns-then-room-size : goal.returns-then-room-size
returns-then-room-size c =
    no_room _ _ _ _ _ _ _ _ _ (sym c.agree.ensures ∙ c.if-not-agree.false) (sym c.held.ensures ∙ c.if-not-held.false) _ (rw (c.front_size.ensures, c.measure_size.ensures, c.measure_size-2.ensures)) c.if-room-size.true

pub returns : goal.returns
returns c =
    has_room _ _ _ _ _ _ _ _ _ (sym c.agree.ensures ∙ c.if-not-agree.false) (sym c.held.ensures ∙ c.if-not-held.false) _ (rw (c.front_size.ensures, c.measure_size.ensures, c.measure_size-2.ensures)) c.if-room-size.false
