-- With one point or none, with several that are not in parts, and with parts.
use mathlib.Core.Path.{◌≡◌, refl, sym, ap, ap₂, ◌∙◌}
use mathlib.Core.Bool.{Bool, true, false, ◌||◌}
use Prim.Native.Nat.{ℕ, ◌<◌}
use native.Mathlib.Omega.{arith}
use lib.Dec.{lit<}
use borrow.Author.Tests.{not-true, not-false}
use Rattle.std.proofs.lemmas.Int.{ints}
use lib.IntN.{ℤ, pos}
use Rattle.format.specs.Lengths.{formula_words, several_form}
use Rattle.format.specs.Units.{same_int}
use Rattle.format.proofs.Equations.{front-parts}
use Rattle.rules.proofs.HeadLaws.{few13, last13}
use Rattle.pair.specs.declared.plans.Plan.{Plan}
use Rattle.pair.specs.Plans.{has_parts, plan_for, taken_from}
use Rattle.rules.specs.Rules.{big_at, little_at}
use Rattle.pair.proofs.HeadLaws.{plain13, form_is, least13}
use Rattle.pair.proofs.UnitLaws.{field-words}
use Rattle.pair.proofs.heads.sized.Goals as goal

-- the kind has several points, in parts where the plan says so
formed : (plan : Plan) (b : Bool) → plan ≡ plan_for (taken_from plan) → plan.several ≡ true → plan.parts ≡ b → (taken_from plan).form ≡ several_form b
formed plan b e m p =
    form_is _ (sym (ap (λ (p : Plan). p.several) e) ∙ m)
    ∙ ap several_form (sym (ap (λ (p : Plan). p.parts) e) ∙ p)

abbrev by_plan : Plan → ℕ → ℕ → ℤ → Bool
by_plan plan p n words = same_int words (pos (formula_words plan.lengths.without p n)) || same_int words (pos (formula_words plan.lengths.with p n))

pub returns-then-not-plan : goal.returns-then-not-plan
returns-then-not-plan c =
    let t = taken_from c.args.plan in
    c.measures.ensures
    ∙ (ap₂ (λ (p : Plan) (z : ℤ). by_plan p 0 p.points z) c.requires.0 (field-words _ _ c.requires.3 c.requires.2)
    ∙ plain13 t c.args.rest.now (sym (ap (λ (p : Plan). p.several) c.requires.0) ∙ not-true _ c.if-not-plan.true))

pub returns-then-words-lt20 : goal.returns-then-words-lt20
returns-then-words-lt20 c =
    let t = taken_from c.args.plan in
    let e = field-words _ _ c.requires.3 c.requires.2 in
    let few : big_at 4 c.args.rest.now < 20 = omega (arith, ints) in
    least13 (has_parts t.form) t c.args.rest.now (form_is _ (sym (ap (λ (p : Plan). p.several) c.requires.0) ∙ not-false _ c.if-not-plan.false)) few

pub returns-then-not-plan-2 : goal.returns-then-not-plan-2
returns-then-not-plan-2 c =
    let t = taken_from c.args.plan in
    let n = c.little-count in
    c.measures-then-not-plan-2.ensures
    ∙ (ap₂ (λ (x : Plan) (z : ℤ). by_plan x 0 n.result z) c.requires.0 (field-words _ _ c.requires.3 c.requires.2)
    ∙ last13 false t c.args.rest.now (formed c.args.plan false c.requires.0 (not-false _ c.if-not-plan.false) (not-true _ c.if-not-plan-2.true)) 0 n.result _ refl (sym n.ensures.value) refl (lit< tt) c.if-count-ge2147483648.false)

pub returns-then-words-lt22 : goal.returns-then-words-lt22
returns-then-words-lt22 c =
    let e = field-words _ _ c.requires.3 c.requires.2 in
    let few : big_at 4 c.args.rest.now < 22 = omega (arith, ints) in
    few13 true (taken_from c.args.plan) c.args.rest.now (formed c.args.plan true c.requires.0 (not-false _ c.if-not-plan.false) (not-false _ c.if-not-plan-2.false)) 22
    (omega (arith, front-parts (little_at 44 c.args.rest.now))) few

pub returns : goal.returns
returns c =
    let t = taken_from c.args.plan in
    let p = c.little-count in
    let n = c.little-n in
    c.measures-2.ensures
    ∙ (ap₂ (λ (x : Plan) (z : ℤ). by_plan x p.result n.result z) c.requires.0 (field-words _ _ c.requires.3 c.requires.2)
    ∙ last13 true t c.args.rest.now (formed c.args.plan true c.requires.0 (not-false _ c.if-not-plan.false) (not-false _ c.if-not-plan-2.false)) p.result n.result _ (sym p.ensures.value) (sym n.ensures.value) refl c.if-count-ge2147483648.false c.if-n-ge2147483648.false)
