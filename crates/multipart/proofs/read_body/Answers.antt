-- `multipart::read_body`: a refusal of the counts, of the walk or of the room leaves the stores, and else they get what the definition has.
use Rattle.std.proofs.Common.{sym, ap, ◌∙◌}
use Rattle.format.specs.Said.{gives}
use Rattle.multipart.proofs.BodyLaws.{counts-refused, rest-refused, no_room, whole-body, said-of_counts, unread}
use Rattle.multipart.proofs.CountLaws.{counts_stop, counted}
use Rattle.multipart.proofs.TestLaws.{told_err}
use Rattle.multipart.proofs.read_body.Goals as goal

pub returns-in_err-said : goal.returns-in_err-said
returns-in_err-said c =
    let a = c.args in
    let e = c.in_err-said.field-0.0 in
    rw (told_err _ _ c.from_residual.ensures.1)
    (unread _ _ _ _ _ _ _ _ _ _ (said-of_counts e ∙ counts-refused a.layout.parts a.layout.z a.layout.m a.s.now _ _ _ _ _ _ (counts_stop _ _ e c.in_err-said.ensures)))

pub judge_rest-requires : goal.judge_rest-requires
judge_rest-requires c = counted _ _ _ c.in_ok-said.ensures

pub returns-in_err-points : goal.returns-in_err-points
returns-in_err-points c =
    let a = c.args in
    let e = c.in_err-points.field-0.0 in
    let known = counted _ _ _ c.in_ok-said.ensures in
    rw (told_err _ _ c.from_residual-in_err-points.ensures.1)
    (unread _ _ _ _ _ _ _ _ _ _ (said-of_counts e ∙ rest-refused a.layout.parts a.layout.z a.layout.m a.s.now _ _ _ _ _ known.passes _ c.in_err-points.ensures))

pub returns-then-not-has_room : goal.returns-then-not-has_room
returns-then-not-has_room c =
    let a = c.args in
    let known = counted _ _ _ c.in_ok-said.ensures in
    let walk = c.in_ok-points.ensures in
    unread _ _ _ _ _ _ _ _ _ _
    (no_room a.layout.parts a.layout.z a.layout.m a.s.now _ _ _ _ _ known.passes _ _ known.parts_are walk.1.0 walk.0 (sym c.has_room.ensures ∙ c.if-not-has_room.true))

pub store_body-requires : goal.store_body-requires
store_body-requires c =
    let known = counted _ _ _ c.in_ok-said.ensures in
    let walk = c.in_ok-points.ensures in
    record {
      parts_are = known.parts_are;
      number_is = known.number_is;
      points_are = walk.1.0;
      ends = walk.1.1;
      room = sym c.has_room.ensures ∙ c.if-not-has_room.false;
    }

pub returns : goal.returns
returns c =
    let a = c.args in
    let known = counted _ _ _ c.in_ok-said.ensures in
    let walk = c.in_ok-points.ensures in
    let d = c.store_body.ensures in
    record {
      says =
          ap gives d.body_is
          ∙ whole-body a.layout.parts a.layout.z a.layout.m a.s.now _ _ _ _ _ known.passes _ _ known.parts_are walk.1.0 walk.0 (sym c.has_room.ensures ∙ c.if-not-has_room.false);
      counts_are = d.counts_are;
      x_are = d.x_are;
      y_are = d.y_are;
      z_are = d.z_are;
      m_are = d.m_are;
    }
