-- `rings::is_part_closed` meets its contract: a run with a point is closed just where the two comparisons of its ends pass.
use Rattle.std.proofs.Common.{true, false, sym, ap₂, ◌∙◌, ◌&&◌, inl, inr}
use Rattle.rings.proofs.AnswerLaws.{closed_past, none_closed, ends_closed}
use Rattle.rings.proofs.is_part_closed.Goals as goal
use Rattle.rings.proofs.is_part_closed.Goals.{else-n-ne0-via-then-n-ne0+then-same+else-same-2, else-n-ne0-via-then-n-ne0+else-same, else-n-ne0-via-else-n-ne0}

pub returns-then-xs-n-clause-answered : goal.returns-then-xs-n-clause-answered
returns-then-xs-n-clause-answered c = closed_past _ _ _ (inl c.if-xs-n.true)

pub returns-then-ys-n-clause-answered : goal.returns-then-ys-n-clause-answered
returns-then-ys-n-clause-answered c = closed_past _ _ _ (inr (c.if-xs-n.false, c.if-ys-n.true))

pub returns-then-same-2-clause-answered : goal.returns-then-same-2-clause-answered
returns-then-same-2-clause-answered c =
    ends_closed _ _ _ c.if-xs-n.false c.if-ys-n.false true c.if-n-ne0.true (ap₂ ◌&&◌ (sym c.if-same.true ∙ c.same.ensures) (sym c.if-same-2.true ∙ c.same-then-same.ensures))

pub returns-clause-answered : goal.returns-clause-answered
returns-clause-answered c =
    let x = c.if-xs-n.false in
    let y = c.if-ys-n.false in
    elim c.else-n-ne0.branch [
      | else-n-ne0-via-then-n-ne0+then-same+else-same-2 w ↦
          ends_closed _ _ _ x y false w.if-n-ne0.true (ap₂ ◌&&◌ (sym w.if-same.true ∙ w.same.ensures) (sym w.if-same-2.false ∙ w.same-then-same.ensures))
      | else-n-ne0-via-then-n-ne0+else-same w ↦ ends_closed _ _ _ x y false w.if-n-ne0.true (rw (← w.same.ensures, w.if-same.false))
      | else-n-ne0-via-else-n-ne0 w ↦ none_closed _ _ _ x y w.if-n-ne0.false
    ]
