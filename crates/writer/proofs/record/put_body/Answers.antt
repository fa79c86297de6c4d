-- Tables that were judged are not refused by the writer of several points.
use Rattle.std.proofs.Common.{sym, ap, ◌∙◌, ℕ, List, length}
use Rattle.std.proofs.lemmas.List.Edits.{sets}
use borrow.Author.Tests.{eq-eqb, ne_eqb}
use Rattle.writer.proofs.BodyLaws.{null-body, point-room, point-body, several-body}
use Rattle.writer.proofs.record.put_body.Goals as goal

pub returns-then-has_several : goal.returns-then-has_several
returns-then-has_several c =
    let a = c.args in
    let t = a.t.now in
    several-body a.k a.bbox t.counts.now t.xs.now t.ys.now t.zs.now t.ms.now a.out.now c.requires (sym c.has_several.ensures ∙ c.if-has_several.true) _ _ c.write_body.ensures

pub returns-then-k-eq0 : goal.returns-then-k-eq0
returns-then-k-eq0 c =
    let a = c.args in
    let t = a.t.now in
    let single = sym c.has_several.ensures ∙ c.if-has_several.false in
    sym (ap (λ (l : List ℕ). sets a.out.now 0 l) (null-body a.k a.bbox t.counts.now t.xs.now t.ys.now t.zs.now t.ms.now single (eq-eqb _ 0 c.if-k-eq0.true)))

pub put_point-requires : goal.put_point-requires
put_point-requires c =
    let a = c.args in
    let t = a.t.now in
    let single = sym c.has_several.ensures ∙ c.if-has_several.false in
    point-room a.k a.bbox t.counts.now t.xs.now t.ys.now t.zs.now t.ms.now (length a.out.now) c.requires single (ne_eqb _ 0 c.if-k-eq0.false)

pub returns : goal.returns
returns c =
    let a = c.args in
    let t = a.t.now in
    let single = sym c.has_several.ensures ∙ c.if-has_several.false in
    c.put_point.ensures
    ∙ ap (λ (l : List ℕ). sets a.out.now 0 l) (point-body a.k a.bbox t.counts.now t.xs.now t.ys.now t.zs.now t.ms.now (length a.out.now) c.requires single (ne_eqb _ 0 c.if-k-eq0.false))
