-- The kind's tests, then the shape's.
use Rattle.std.proofs.Common.{to_z-of_z}
use Rattle.std.proofs.lemmas.Result.{err_from_is_err_and}
use Rattle.writer.specs.Adding.{lent_tables}
use Rattle.writer.proofs.PassLaws.{refused-kind, judged}
use Rattle.writer.proofs.judge.judge.Goals as goal

pub returns-in_err-kind : goal.returns-in_err-kind
returns-in_err-kind c =
    λ b.
    let a = c.args in
    let p = err_from_is_err_and c.from_residual.result c.from_residual.ensures.1 in
    rw (p.1, p.2) (refused-kind a.state (lent_tables a.code b a.t.now) a.space.out a.space.start a.space.entry _ (rw (to_z-of_z c.ranges.code) at c.in_err-kind.ensures))

pub returns : goal.returns
returns c =
    λ b.
    let a = c.args in
    let kind = rw (to_z-of_z c.ranges.code) at c.in_ok-kind.ensures in
    judged a.state (lent_tables a.code b a.t.now) a.space.out a.space.start a.space.entry _ _ kind c.judge_shape.result (rw (to_z-of_z c.ranges.code) at (c.judge_shape.ensures b))
