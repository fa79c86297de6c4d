-- What a head with no fault tells of the record, and the rules of its shape over its counts: with no parts the counts of parts leave nothing to test.
use mathlib.Core.Path.{◌≡◌, refl, sym, ◌∙◌, subst}
use mathlib.Core.Bool.{Bool, true, false, cond, ◌&&◌, and-true}
use mathlib.Core.List.{List}
use Prim.Native.Nat.{ℕ, zero-le, ◌+◌, ◌*◌, ◌-◌, ◌/◌, ◌≤◌}
use native.Mathlib.Omega.{arith}
use lib.Dec.{leb, eqb, lit≤}
use lib.ListN.{length}
use Rattle.format.specs.declared.kinds.Kind.{Kind}
use Rattle.format.specs.Lengths.{Form, nothing, one_point, many_points, parts, several, front_words}
use Rattle.format.specs.WellFormed.{has_rings, least_points}
use Rattle.format.proofs.Equations.{front-null, front-point, front_many, front-parts}
use Rattle.rules.specs.Rules.{Taken, little_at, words_of, parts_of, points_of, finites, parts_long, rings_closed, P13, P14, P15, P16}
use Rattle.rules.proofs.FiniteLaws.{at15, at16}
use Rattle.rules.proofs.HeadLaws.{Inside, told10, told11, room13}
use Rattle.rules.proofs.Turns.{parts_done, rings_done}
use Rattle.pair.specs.Plans.{has_parts, points_alone}
use Rattle.pair.specs.Verdicts.{head_fault}
use Rattle.pair.proofs.HeadLaws.{form_is}
use Rattle.pair.proofs.RecordLaws.{head_met}

-- ---- what a head with no fault tells

pub record Head (l x : List ℕ) : Type 0 where
  pub inside : Inside l
  pub entry : 8 ≤ length x

pub head_told : (h : Kind) (l x : List ℕ) (at k : ℕ) → head_fault h l x at k ≡ 0 → Head l x
head_told h l x at k e =
    let met = head_met h l x at k e in
    record { inside = told10 l (met 1); entry = told11 l x at (met 2) }

-- and the rule of its length
pub several-room : (t : Taken) (l : List ℕ) → P13 t l ≡ true → several t.form ≡ true → front_words t.form (parts_of t.form l) + 8 * points_of t.form l ≤ words_of l
several-room t l e h =
    subst (λ (f : Form). front_words f (parts_of f l) + 8 * points_of f l ≤ words_of l) (sym (form_is t.form h)) (room13 (has_parts t.form) t l (form_is t.form h) e)

-- ---- the counts, and the rules of the shape over them

pub parts-of : (f : Form) (l : List ℕ) → parts_of f l ≡ cond (has_parts f) (little_at 44 l) 0
parts-of nothing l = refl
parts-of one_point l = refl
parts-of many_points l = refl
parts-of parts l = refl

pub points-of : (f : Form) (l : List ℕ) → points_of f l ≡ cond (has_parts f) (little_at 48 l) (cond (several f) (little_at 44 l) (points_alone f))
points-of nothing l = refl
points-of one_point l = refl
points-of many_points l = refl
points-of parts l = refl

-- the words in front of the points are the plan's, and two for each start
pub front_more : (f : Form) (l : List ℕ) → front_words f (parts_of f l) ≡ front_words f 0 + 2 * parts_of f l
front_more nothing l = omega (arith, front-null 0)
front_more one_point l = omega (arith, front-point 0)
front_more many_points l = omega (arith, front_many 0)
front_more parts l = omega (arith, front-parts (little_at 44 l), front-parts 0)

pub at_most_one : (f : Form) → points_alone f ≤ 1
at_most_one nothing = lit≤ tt
at_most_one one_point = lit≤ tt
at_most_one many_points = lit≤ tt
at_most_one parts = lit≤ tt

pub parts-several : (f : Form) → has_parts f ≡ true → several f ≡ true
parts-several nothing e = e
parts-several one_point e = e
parts-several many_points e = refl
parts-several parts e = refl

-- there is a part, and the first one starts at point 0; of several points that are not in parts there is one
abbrev pub begins_of : Bool → Bool → ℕ → ℕ → ℕ → Bool
begins_of parted many p n start = cond parted (leb 1 p && eqb start 0) (cond many (leb 1 n) true)

of14 : (k : Kind) (f : Form) (l : List ℕ)
    → P14 (record { kind = k; form = f }) l
    ≡ (begins_of (has_parts f) (several f) (parts_of f l) (points_of f l) (little_at 52 l) && parts_long (least_points k) (parts_of f l) 56 0 (points_of f l) l)
of14 k nothing l = sym (parts_done l 0 (least_points k) 56 0 0 zero-le)
of14 k one_point l = sym (parts_done l 1 (least_points k) 56 0 0 zero-le)
of14 k many_points l = rw (parts_done l (little_at 44 l) (least_points k) 56 0 0 zero-le) (sym (and-true (leb 1 (little_at 44 l))))
of14 k parts l = refl

module _ (t : Taken) (l : List ℕ) where
  pub shape14 : P14 t l
      ≡ (begins_of (has_parts t.form) (several t.form) (parts_of t.form l) (points_of t.form l) (little_at 52 l)
      && parts_long (least_points t.kind) (parts_of t.form l) 56 0 (points_of t.form l) l)
  shape14 = of14 t.kind t.form l

  module _ (front : ℕ) (is : front_words t.form (parts_of t.form l) ≡ front) where
    -- only parts are rings
    as_rings : (f : Form) (b : Bool) → (b ≡ true → has_parts f ≡ true)
        → cond b (rings_closed (8 + 2 * front) (little_at 44 l) 56 0 (little_at 48 l) l) true ≡ rings_closed (8 + 2 * front) (cond b (parts_of f l) 0) 56 0 (points_of f l) l
    as_rings f false h = sym (rings_done l (points_of f l) (8 + 2 * front) 56 0 0 zero-le)
    as_rings nothing true h = absurd (let z : ◌≡◌ {A = Bool} false true = h refl in let y : ◌≡◌ {A = ℕ} 0 1 = cc in omega arith)
    as_rings one_point true h = absurd (let z : ◌≡◌ {A = Bool} false true = h refl in let y : ◌≡◌ {A = ℕ} 0 1 = cc in omega arith)
    as_rings many_points true h = absurd (let z : ◌≡◌ {A = Bool} false true = h refl in let y : ◌≡◌ {A = ℕ} 0 1 = cc in omega arith)
    as_rings parts true h = refl

    pub shape15 : (has_rings t.kind ≡ true → has_parts t.form ≡ true)
        → P15 t l ≡ rings_closed (8 + 2 * front) (cond (has_rings t.kind) (parts_of t.form l) 0) 56 0 (points_of t.form l) l
    shape15 h = at15 t l front is ∙ as_rings t.form (has_rings t.kind) h

    pub shape16 : P16 t l ≡ (finites (cond (several t.form) 4 0) 12 l && finites ((words_of l - front) / 4) (8 + 2 * front) l)
    shape16 = at16 t l front is
