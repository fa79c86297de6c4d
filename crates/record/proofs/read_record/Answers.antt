-- `record::read_record`: what the front refuses is refused, and else the shape of the kind decides.
use mathlib.Core.Path.{◌≡◌}
use mathlib.Core.Option.{some}
use Rattle.std.proofs.lemmas.Result.{err_from_is_err_and}
use Rattle.format.specs.Kinds.{kind_at}
use Rattle.record.specs.Reading.{code_in}
use Rattle.record.proofs.ShapeLaws.{refused, shaped}
use Rattle.record.proofs.read_record.Goals as goal

pub returns-in_err-content : goal.returns-in_err-content
returns-in_err-content c =
    let a = c.args in
    let p = err_from_is_err_and c.from_residual.result c.from_residual.ensures.1 in
    rw (p.1, p.2) (refused a.wanted a.size a.s.now a.counts.now a.xs.now a.ys.now a.zs.now a.ms.now _ c.in_err-content.ensures.tests)

pub returns : goal.returns
returns c =
    let a = c.args in
    let here : kind_at (code_in a.s.now) ≡ some c.in_ok-content.content.kind = rw c.in_ok-content.ensures.begins.code_is at c.in_ok-content.content.kind_is in
    shaped a.wanted a.size a.s.now a.counts.now a.xs.now a.ys.now a.zs.now a.ms.now _ c.in_ok-content.ensures.tests here _ _ _ _ _ _
    (rw c.in_ok-content.ensures.begins.size_is at c.read_shape.ensures)
