-- The answers of the three judges say how the tests came out.
use Rattle.std.proofs.Common.{◌≡◌, ◌∙◌, sym, arith}
use Rattle.std.proofs.lemmas.Grind.{common_steps}
use Rattle.std.specs.Prelude.{None}
use Rattle.writer.specs.declared.AddError.TheVariants.{Long}
use Rattle.std.proofs.lemmas.Result.{err_from_is_err_and}
use Rattle.writer.specs.Adding.{lent_tables}
use Rattle.writer.proofs.PassLaws.{refused-tables, refused-long, refused-room, passed}
use Rattle.writer.proofs.judge.judge_shape.Goals as goal

pub returns-in_err-points : goal.returns-in_err-points
returns-in_err-points c =
    λ b.
    let a = c.args in
    let r = c.requires in
    let p = err_from_is_err_and c.from_residual.result c.from_residual.ensures.1 in
    rw (p.1, p.2) (refused-tables a.state (lent_tables a.code b a.t.now) a.kind r.of_code r.state_value a.f r.f_value a.space.out a.space.start a.space.entry _ (sym c.judge_tables.ensures ∙ c.in_err-points.was))

pub returns-in_err-content : goal.returns-in_err-content
returns-in_err-content c =
    λ b.
    let a = c.args in
    let r = c.requires in
    let tables = sym c.judge_tables.ensures ∙ c.in_ok-points.was in
    let none : c.judge_length-lengths.result ≡ None = grind arith in
    let long : c.in_err-content.field-0.0 ≡ Long = grind (arith, common_steps) in
    let p = err_from_is_err_and c.from_residual-in_err-content.result c.from_residual-in_err-content.ensures.1 in
    rw (p.1, p.2, long)
    (refused-long a.state (lent_tables a.code b a.t.now) a.kind r.of_code r.state_value a.f r.f_value a.space.out a.space.start a.space.entry _ tables (sym c.judge_length-lengths.ensures ∙ none))

pub returns-in_err-judge_room : goal.returns-in_err-judge_room
returns-in_err-judge_room c =
    λ b.
    let a = c.args in
    let r = c.requires in
    let tables = sym c.judge_tables.ensures ∙ c.in_ok-points.was in
    let lengths = sym c.judge_length-lengths.ensures ∙ c.in_ok-content.ensures.ok_part in
    let p = err_from_is_err_and c.from_residual-in_err-judge_room.result c.from_residual-in_err-judge_room.ensures.1 in
    rw (p.1, p.2)
    (refused-room a.state (lent_tables a.code b a.t.now) a.kind r.of_code r.state_value a.f r.f_value a.space.out a.space.start a.space.entry _ tables _ lengths _ c.record_bytes-size.ensures _ (sym c.judge_room.ensures ∙ c.in_err-judge_room.was))

pub returns : goal.returns
returns c =
    λ b.
    let a = c.args in
    let r = c.requires in
    let tables = sym c.judge_tables.ensures ∙ c.in_ok-points.was in
    let lengths = sym c.judge_length-lengths.ensures ∙ c.in_ok-content.ensures.ok_part in
    passed a.state (lent_tables a.code b a.t.now) a.kind r.of_code r.state_value a.f r.f_value a.space.out a.space.start a.space.entry _ tables _ lengths _ c.record_bytes-size.ensures _ (sym c.judge_room.ensures ∙ c.in_ok-judge_room.was)
