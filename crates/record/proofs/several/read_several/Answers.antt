-- `record::several::read_several`: the counts first, then the size, which settles whether m is read, and the body.
use mathlib.Core.Path.{◌≡◌, sym, ap, ◌∙◌}
use mathlib.Core.Bool.{true, false}
use native.Mathlib.Omega.{arith}
use mir.Syntax.{w32}
use mir.Val.{SFits}
use borrow.Author.Rules.{rules}
use Rattle.std.specs.Prelude.{Some, None, Ok, Err}
use Rattle.std.specs.Result.{result_ok}
use Rattle.std.proofs.lemmas.Result.{err_from_is_err_and}
use Rattle.format.proofs.SignLaws.{back}
use Rattle.multipart.specs.declared.BodyError.{BodyError}
use Rattle.multipart.specs.declared.CountsError.{CountsError}
use Rattle.multipart.specs.Answers.{counts_of}
use Rattle.multipart.specs.Answers.{of_counts, said_counts}
use Rattle.record.specs.declared.RecordError.TheVariants as Error
use Rattle.record.specs.Steps.{Sizes, behind}
use Rattle.record.proofs.SeveralLaws.{mapped_ok, mapped_err, counts_movable, body_movable, counts_refused, size_refused, body_refused, body_read}
use Rattle.record.proofs.several.read_several.Goals.{After-map_err, After-map_err-2, In_ok-said, In_ok-m}
use Rattle.record.proofs.several.read_several.Goals as goal

-- what was said of the counts
refused : (c : After-map_err) (d : BodyError) → c.map_err.result ≡ Err d → (e : CountsError) × (c.read_counts.result ≡ Err e) × (d ≡ of_counts e)
refused c = mapped_err (λ (e : CountsError) (d : BodyError). d ≡ of_counts e) c.read_counts.result c.map_err.result c.map_err.ensures.cases

told : (c : In_ok-said) → said_counts (Ok c.in_ok-said.said) ≡ counts_of c.args.content.kind.parts c.args.b.now
told c =
    let q = mapped_ok (λ d e. e ≡ behind d) c.map_err.result c.map_err-2.result c.map_err-2.ensures.cases _ c.in_ok-said.was in
    let r = mapped_ok (λ (e : CountsError) (d : BodyError). d ≡ of_counts e) c.read_counts.result c.map_err.result c.map_err.ensures.cases _ q in
    ap said_counts (sym r) ∙ c.read_counts.ensures

-- what was said of the size
sized : (c : In_ok-m) → Sizes c.args.content.kind c.args.content.size c.in_ok-said.said (Some c.in_ok-m.m)
sized c = let e : c.judge_m.result ≡ Some c.in_ok-m.m = c.ok_or.ensures.ok_part ∙ ap result_ok c.in_ok-m.was in rw e at c.judge_m.ensures

pub map_err-requires-2 : goal.map_err-requires-2
map_err-requires-2 c d g =
    let r = refused (goal.at.map_err-requires-2 c).After-map_err d g in
    rw r.2 (counts_movable c.args.b.now (omega arith) c.args.content.kind.parts r.0 (ap said_counts (sym r.1) ∙ c.read_counts.ensures))

pub returns-in_err-said : goal.returns-in_err-said
returns-in_err-said c =
    let a = c.args in
    let p = err_from_is_err_and c.from_residual.result c.from_residual.ensures.1 in
    let q = mapped_err (λ d e. e ≡ behind d) c.map_err.result c.map_err-2.result c.map_err-2.ensures.cases _ c.in_err-said.was in
    let r = refused (goal.at.returns-in_err-said c).After-map_err q.0 q.1 in
    rw (p.1, p.2, q.2, r.2)
    (counts_refused a.content.code a.content.kind a.content.size a.b.now a.counts.now a.xs.now a.ys.now a.zs.now a.ms.now r.0 (ap said_counts (sym r.1) ∙ c.read_counts.ensures))

pub returns-in_err-m : goal.returns-in_err-m
returns-in_err-m c =
    let a = c.args in
    let p = err_from_is_err_and c.from_residual-in_err-m.result c.from_residual-in_err-m.ensures.1 in
    let n : c.judge_m.result ≡ None = c.ok_or.ensures.ok_part ∙ ap result_ok c.in_err-m.was in
    let o = rw n at c.ok_or.ensures.value in
    let e : c.in_err-m.field-0.0 ≡ Error.Size 0 = cc (o, c.in_err-m.was) in
    rw (p.1, p.2, e)
    (size_refused a.content.code a.content.kind a.content.size a.b.now a.counts.now a.xs.now a.ys.now a.zs.now a.ms.now _ (told (goal.at.returns-in_err-m c).In_ok-said) (rw n at c.judge_m.ensures))

pub map_err-requires-3 : goal.map_err-requires-3
map_err-requires-3 c e g =
    let a = c.args in
    body_movable a.b.now (omega arith) a.content.kind.parts a.content.kind.z c.in_ok-m.m a.counts.now a.xs.now a.ys.now a.zs.now a.ms.now e _ _ _ _ _ (rw g at c.read_body.ensures)

pub returns-in_err-body : goal.returns-in_err-body
returns-in_err-body c =
    let a = c.args in
    let v = goal.at.returns-in_err-body c in
    let p = err_from_is_err_and c.from_residual-in_err-body.result c.from_residual-in_err-body.ensures.1 in
    let q = mapped_err (λ d e. e ≡ behind d) c.read_body.result c.map_err-3.result c.map_err-3.ensures.cases _ c.in_err-body.was in
    rw (p.1, p.2, q.2)
    (body_refused a.content.code a.content.kind a.content.size a.b.now a.counts.now a.xs.now a.ys.now a.zs.now a.ms.now _ (told v.In_ok-said) c.in_ok-m.m (sized v.In_ok-m) _ _ _ _ _ q.0 (rw q.1 at c.read_body.ensures))

pub returns-then-kind : goal.returns-then-kind
returns-then-kind c =
    let a = c.args in
    let v = goal.at.returns-then-kind c in
    let fits : SFits w32 a.content.code = search rules in
    let q = mapped_ok (λ d e. e ≡ behind d) c.read_body.result c.map_err-3.result c.map_err-3.ensures.cases _ c.in_ok-body.was in
    rw (back w32 a.content.code fits.sfits)
    (body_read a.content.code a.content.kind a.content.size a.b.now a.counts.now a.xs.now a.ys.now a.zs.now a.ms.now _ (told v.In_ok-said) c.in_ok-m.m (sized v.In_ok-m) _ _ _ _ _ _ (rw q at c.read_body.ensures) true c.if-kind.true)

pub returns : goal.returns
returns c =
    let a = c.args in
    let v = goal.at.returns c in
    let fits : SFits w32 a.content.code = search rules in
    let q = mapped_ok (λ d e. e ≡ behind d) c.read_body.result c.map_err-3.result c.map_err-3.ensures.cases _ c.in_ok-body.was in
    rw (back w32 a.content.code fits.sfits)
    (body_read a.content.code a.content.kind a.content.size a.b.now a.counts.now a.xs.now a.ys.now a.zs.now a.ms.now _ (told v.In_ok-said) c.in_ok-m.m (sized v.In_ok-m) _ _ _ _ _ _ (rw q at c.read_body.ensures) false c.if-kind.false)
