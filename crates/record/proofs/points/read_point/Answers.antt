-- `record::points::read_point`: the size, then the doubles, of which the first one cut decides.
use native.Mathlib.Omega.{arith}
use Rattle.std.proofs.lemmas.Result.{err_from_is_err_and}
use Rattle.record.proofs.PointLaws.{other_size, point_cut, point-whole}
use Rattle.record.proofs.points.read_point.Goals as goal

pub returns-then-not-has_words : goal.returns-then-not-has_words
returns-then-not-has_words c =
    let a = c.args.content in
    other_size a.kind a.lengths a.size _ a.lengths_are c.requires.of_points c.if-not-has_words.ensures

pub returns-in_err-fields_end : goal.returns-in_err-fields_end
returns-in_err-fields_end c =
    let a = c.args.content in
    let e = err_from_is_err_and c.from_residual.result c.from_residual.ensures.1 in
    let cut = c.in_err-fields_end.ensures in
    rw (e.1, e.2, cut.1)
    (point_cut a.kind a.lengths a.size _ a.lengths_are c.requires.of_points c.if-not-has_words.ensures c.requires.begins.long
    (rw c.doubles_of.ensures at cut.0))

pub returns : goal.returns
returns c =
    let a = c.args.content in
    point-whole a.kind a.lengths a.size _ a.lengths_are c.requires.of_points c.if-not-has_words.ensures
    (omega (arith, c.in_ok-fields_end.ensures.0, c.in_ok-fields_end.ensures.1, c.doubles_of.ensures)) _ _ c.requires.begins.code_is c.point_at.ensures
