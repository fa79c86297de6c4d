-- The first fault of the headers decides, and without one the records do.
use mathlib.Core.Path.{◌≡◌, sym, ap, ◌∙◌}
use mathlib.Core.List.{List}
use mathlib.Core.Option.{some}
use native.Mathlib.Omega.{arith}
use borrow.Author.Rules.{rules}
use lib.IntN.{ℤ}
use Prim.Native.Nat.{ℕ}
use mir.Syntax.{w32}
use Rattle.std.specs.Prelude.{Err}
use Rattle.format.specs.Kinds.{kind_at}
use Rattle.format.specs.Numbers.{le_i32}
use Rattle.format.proofs.SignLaws.{back}
use Rattle.rules.specs.Rules.{taken_of, taken_in}
use Rattle.pair.specs.declared.plans.Plan.{Plan}
use Rattle.pair.specs.Plans.{plan_for, taken_from}
use Rattle.pair.specs.Verdicts.{front_fault}
use Rattle.pair.proofs.FoundLaws.{found_none}
use Rattle.pair.proofs.PlanLaws.{in_header, none-taken, one_taken, rings_parts, null_plan, null-is-taken}
use Rattle.pair.proofs.VerdictLaws.{by_front, both_long, by-kind, by_back, by_records}
use Rattle.pair.proofs.judge.Goals.{In_ok-check_front, In_ok-plan}
use Rattle.pair.proofs.judge.Goals as goal

-- P1 to P3 are met
fine : (c : In_ok-check_front) → 0 ≡ front_fault c.args.shp.now c.args.shx.now
fine c = (found_none _ _ _ _ c.in_ok-check_front.ensures).0

-- the kind that is looked up is the one that the header names, and the plan is that of the kind that the rules take
named : (s : List ℕ) (z : ℤ) → z ≡ le_i32 32 s → taken_of (kind_at z) ≡ taken_in s
named s z e = ap (λ (x : ℤ). taken_of (kind_at x)) e ∙ in_header s

known : (c : In_ok-plan) → (taken_in c.args.shp.now ≡ some (taken_from c.in_ok-plan.plan)) × (c.in_ok-plan.plan ≡ plan_for (taken_from c.in_ok-plan.plan))
known c =
    let q = one_taken _ c.in_ok-plan.plan (sym c.plan_of.ensures ∙ c.in_ok-plan.ensures.ok_part) in
    (sym (named c.args.shp.now _ (back w32 _ c.le_i32_at.type_inv ∙ c.le_i32_at.ensures)) ∙ q.0, q.1)

pub returns-in_err-check_front : goal.returns-in_err-check_front
returns-in_err-check_front c =
    let is : c.from_residual.result ≡ Err c.in_err-check_front.field-0.0 = search rules in
    rw is (by_front _ _ _ c.in_err-check_front.ensures)

pub le_i32_at-requires : goal.le_i32_at-requires
le_i32_at-requires c = omega (arith, (both_long _ _ (fine c)).0)

pub returns-in_err-plan : goal.returns-in_err-plan
returns-in_err-plan c =
    let is : c.from_residual-in_err-plan.result ≡ Err c.in_err-plan.field-0.0 = search rules in
    let q : c.in_err-plan.field-0.0 ≡ record { rule = 4; «record» = 0 } = cc (rw c.in_err-plan.ensures.ok_part at c.in_err-plan.ensures.value) in
    let n = none-taken _ (sym c.plan_of.ensures ∙ c.in_err-plan.ensures.ok_part) in
    rw (is, q)
    (by-kind _ _ (fine (goal.at.returns-in_err-plan c).In_ok-check_front) (sym (named c.args.shp.now _ (back w32 _ c.le_i32_at.type_inv ∙ c.le_i32_at.ensures)) ∙ n))

pub check_back-requires : goal.check_back-requires
check_back-requires c = both_long _ _ (fine (goal.at.check_back-requires c).In_ok-check_front)

pub returns-in_err-check_back : goal.returns-in_err-check_back
returns-in_err-check_back c =
    let v = goal.at.returns-in_err-check_back c in
    let is : c.from_residual-in_err-check_back.result ≡ Err c.in_err-check_back.field-0.0 = search rules in
    rw is (by_back _ _ (fine v.In_ok-check_front) (taken_from c.in_ok-plan.plan) (known v.In_ok-plan).0 _ c.in_err-check_back.ensures)

pub returns-in_err-null : goal.returns-in_err-null
returns-in_err-null c = absurd (null-is-taken (sym c.plan_of-2.ensures ∙ c.in_err-null.ensures.ok_part))

pub walk-requires : goal.walk-requires
walk-requires c =
    let v = goal.at.walk-requires c in
    let k = known v.In_ok-plan in
    let long = both_long _ _ (fine v.In_ok-check_front) in (
      k.1,
      null_plan _ (sym c.plan_of-2.ensures ∙ c.in_ok-null.ensures.ok_part),
      λ r. ap (λ (p : Plan). p.parts) k.1 ∙ rings_parts _ (taken_from c.in_ok-plan.plan) k.0 (sym (ap (λ (p : Plan). p.rings) k.1) ∙ r),
      long.0,
      long.1,
    )

pub returns : goal.returns
returns c =
    let v = goal.at.returns c in
    c.walk.ensures ∙ by_records _ _ (fine v.In_ok-check_front) (taken_from c.in_ok-plan.plan) (known v.In_ok-plan).0 (found_none _ _ _ _ c.in_ok-check_back.ensures).0
