-- `record::front::judge_found`: one place after the other of the order, by the law of that place.
use mathlib.Core.Path.{◌≡◌, ◌∙◌}
use mathlib.Core.Bool.{true}
use mir.Syntax.{w32, w64}
use mir.Val.{SFits, to_z, of_z}
use mir.ValLaws.{to_z-of_z}
use borrow.Author.Rules.{rules}
use Rattle.std.proofs.lemmas.Result.{err_from_is_err_and}
use Rattle.format.proofs.KindLaws.{kind_found}
use Rattle.format.proofs.SignLaws.{back}
use Rattle.format.specs.Order.{whole}
use Rattle.record.specs.Reading.{code_in}
use Rattle.record.specs.Steps.{Held}
use Rattle.record.proofs.FrontLaws.{taken_yes, cut, found_unknown, size-left, found_other, found_not, found_well}
use Rattle.record.proofs.SizeLaws.{too_low, too_high, held}
use Rattle.record.proofs.front.judge_found.Goals.{In_ok-code, Else-size-gt2147483651, then-size-ltminus2147483644-via-then-size-ltminus2147483644, then-size-ltminus2147483644-via-else-size-ltminus2147483644+then-size-gt2147483651}
use Rattle.record.proofs.front.judge_found.Goals as goal

-- the field of the kind is whole
field : (c : In_ok-code) → (whole 4 0 c.args.s.now ≡ true) × (c.in_ok-code.code ≡ code_in c.args.s.now)
field c = rw c.in_ok-code.was at c.le_i32.ensures

code-back : (c : In_ok-code) → to_z w32 (of_z w32 c.in_ok-code.code) ≡ code_in c.args.s.now
code-back c = let fits : SFits w32 c.in_ok-code.code = search rules in back w32 c.in_ok-code.code fits.sfits ∙ (field c).1

-- the size, which the code tests by its bits
is_held : (c : Else-size-gt2147483651) → Held c.args.size
is_held c =
    let fits : SFits w64 c.args.size.0 = search rules in
    let b = to_z-of_z w64 c.args.size.0 fits in
    held c.args.size.0 (rw b at c.if-size-ltminus2147483644.false) (rw b at c.if-size-gt2147483651.false)

pub returns-in_err-code-clause-tests : goal.returns-in_err-code-clause-tests
returns-in_err-code-clause-tests c =
    let p = err_from_is_err_and c.from_residual.result c.from_residual.ensures.1 in
    let r = rw c.in_err-code.was at c.le_i32.ensures in
    rw (p.1, p.2) (cut c.args.wanted c.args.size c.args.s.now r.0 _ r.1)

pub returns-in_err-kind-clause-tests : goal.returns-in_err-kind-clause-tests
returns-in_err-kind-clause-tests c =
    let l = (goal.at.returns-in_err-kind-clause-tests c).In_ok-code in
    let p = err_from_is_err_and c.from_residual-in_err-kind.result c.from_residual-in_err-kind.ensures.1 in
    rw (p.1, p.2) (found_unknown c.args.wanted c.args.size c.args.s.now (field l).0 _ (code-back l) _ c.find_kind.ensures _ c.in_err-kind.was)

pub returns-then-size-ltminus2147483644-clause-tests : goal.returns-then-size-ltminus2147483644-clause-tests
returns-then-size-ltminus2147483644-clause-tests c =
    let l = (goal.at.returns-then-size-ltminus2147483644-clause-tests c).In_ok-code in
    let k = kind_found _ _ c.find_kind.ensures _ c.in_ok-kind.was in
    let fits : SFits w64 c.args.size.0 = search rules in
    let b = to_z-of_z w64 c.args.size.0 fits in
    size-left c.args.wanted c.args.size c.args.s.now (field l).0 _ (code-back l) _ k
    (elim c.then-size-ltminus2147483644.branch [
      | then-size-ltminus2147483644-via-then-size-ltminus2147483644 w ↦ too_low c.args.size.0 (rw b at w.if-size-ltminus2147483644.true)
      | then-size-ltminus2147483644-via-else-size-ltminus2147483644+then-size-gt2147483651 w ↦ too_high c.args.size.0 (rw b at w.if-size-gt2147483651.true)
    ])

pub returns-in_err-judge_match-clause-tests : goal.returns-in_err-judge_match-clause-tests
returns-in_err-judge_match-clause-tests c =
    let l = (goal.at.returns-in_err-judge_match-clause-tests c).In_ok-code in
    let e = (goal.at.returns-in_err-judge_match-clause-tests c).Else-size-gt2147483651 in
    let k = kind_found _ _ c.find_kind.ensures _ c.in_ok-kind.was in
    let p = err_from_is_err_and c.from_residual-in_err-judge_match.result c.from_residual-in_err-judge_match.ensures.1 in
    rw (p.1, p.2)
    (found_other c.args.wanted c.args.size c.args.s.now (field l).0 _ (code-back l) _ k (is_held e) _ c.in_err-judge_match.ensures)

pub returns-in_err-lengths-clause-tests : goal.returns-in_err-lengths-clause-tests
returns-in_err-lengths-clause-tests c =
    let l = (goal.at.returns-in_err-lengths-clause-tests c).In_ok-code in
    let e = (goal.at.returns-in_err-lengths-clause-tests c).Else-size-gt2147483651 in
    let k = kind_found _ _ c.find_kind.ensures _ c.in_ok-kind.was in
    let p = err_from_is_err_and c.from_residual-in_err-lengths.result c.from_residual-in_err-lengths.ensures.1 in
    rw (p.1, p.2)
    (found_not c.args.wanted c.args.size c.args.s.now (field l).0 _ (code-back l) _ k (is_held e) c.in_ok-judge_match.ensures _ c.lengths_of.ensures _ c.in_err-lengths.was)

pub invariant_of-result : goal.invariant_of-result
invariant_of-result c =
    let e = (goal.at.invariant_of-result c).Else-size-gt2147483651 in
    let k = kind_found _ _ c.find_kind.ensures _ c.in_ok-kind.was in
    record { kind_is = k; lengths_are = (taken_yes _ _ k _ c.lengths_of.ensures _ c.in_ok-lengths.was).1; held = is_held e }

pub returns-clause-tests : goal.returns-clause-tests
returns-clause-tests c =
    let l = (goal.at.returns-clause-tests c).In_ok-code in
    let e = (goal.at.returns-clause-tests c).Else-size-gt2147483651 in
    let k = kind_found _ _ c.find_kind.ensures _ c.in_ok-kind.was in
    found_well c.args.wanted c.args.size c.args.s.now (field l).0 _ (code-back l) _ k (is_held e) c.in_ok-judge_match.ensures _ c.lengths_of.ensures _ c.in_ok-lengths.was
