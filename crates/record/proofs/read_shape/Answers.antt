-- `record::read_shape`: the code and whether the kind has several points pick the form that the definition has.
use mathlib.Core.Path.{◌≡◌, sym}
use mathlib.Core.List.{List}
use mathlib.Core.Option.{some}
use Prim.Native.Nat.{ℕ, ◌-◌, ◌≤◌}
use native.Mathlib.Omega.{arith}
use lib.ListN.{length, take, drop, length-drop}
use lib.Seq.{take_all}
use mir.Syntax.{w32}
use mir.Val.{SFits}
use borrow.Author.Rules.{rules}
use Rattle.std.proofs.lemmas.Result.{err_from_is_err_and}
use Rattle.format.specs.Lengths.{one_point, several_form, form_of}
use Rattle.format.proofs.SignLaws.{back}
use Rattle.record.proofs.ShapeLaws.{null-form, several-form, point-form, null-shape, point_refused, point_read, several-shape}
use Rattle.record.proofs.read_shape.Goals.{Then-has_several, Else-has_several}
use Rattle.record.proofs.read_shape.Goals as goal

-- the body, as the code lends it
rest_of : (s : List ℕ) → take (length s - 4) (drop 4 s) ≡ drop 4 s
rest_of s = let h : length (drop 4 s) ≤ length s - 4 = simp length-drop (omega arith) in take_all (length s - 4) (drop 4 s) h

several-known : (c : Then-has_several) → form_of c.args.content.kind ≡ some (several_form c.args.content.kind.parts)
several-known c =
    let a = c.args.content in
    several-form a.code a.kind a.lengths a.kind_is a.lengths_are (sym c.if-has_several.ensures)

point-known : (c : Else-has_several) → form_of c.args.content.kind ≡ some one_point
point-known c =
    let a = c.args.content in
    point-form a.code a.kind a.lengths a.kind_is a.lengths_are c.if-content-eq0.false (sym c.if-has_several.ensures)

pub returns-then-content-eq0 : goal.returns-then-content-eq0
returns-then-content-eq0 c =
    let a = c.args.content in
    null-shape a.kind a.size c.args.s.now c.args.counts.now c.args.xs.now c.args.ys.now c.args.zs.now c.args.ms.now
    (null-form a.code a.kind a.lengths a.kind_is a.lengths_are c.if-content-eq0.true)

pub read_several-requires : goal.read_several-requires
read_several-requires c = several-known (goal.at.read_several-requires c).Then-has_several

pub returns-then-has_several : goal.returns-then-has_several
returns-then-has_several c =
    let a = c.args in
    several-shape a.content.kind a.content.size a.s.now a.counts.now a.xs.now a.ys.now a.zs.now a.ms.now _ (take (length a.s.now - 4) (drop 4 a.s.now)) _ _ _ _ _ _
    (several-known (goal.at.returns-then-has_several c).Then-has_several) c.requires.code_is (rest_of a.s.now) c.read_several.ensures

pub read_point-requires-clause-of_points : goal.read_point-requires-clause-of_points
read_point-requires-clause-of_points c = point-known (goal.at.read_point-requires-clause-of_points c).Else-has_several

pub returns-in_err-point : goal.returns-in_err-point
returns-in_err-point c =
    let a = c.args in
    let p = err_from_is_err_and c.from_residual.result c.from_residual.ensures.1 in
    rw (p.1, p.2)
    (point_refused a.content.kind a.content.size a.s.now a.counts.now a.xs.now a.ys.now a.zs.now a.ms.now a.content.code (point-known (goal.at.returns-in_err-point c).Else-has_several) _ c.in_err-point.ensures)

pub returns : goal.returns
returns c =
    let a = c.args in
    let fits : SFits w32 a.content.code = search rules in
    rw (back w32 a.content.code fits.sfits)
    (point_read a.content.kind a.content.size a.s.now a.counts.now a.xs.now a.ys.now a.zs.now a.ms.now a.content.code (point-known (goal.at.returns c).Else-has_several) _ c.in_ok-point.ensures)
