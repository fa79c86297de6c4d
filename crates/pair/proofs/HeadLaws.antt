-- P13 by what a plan says of a kind's form.
use mathlib.Core.Path.{◌≡◌, refl, sym}
use mathlib.Core.Bool.{Bool, true, false}
use mathlib.Core.List.{List}
use Prim.Native.Nat.{ℕ, ◌≤◌, ◌<◌}
use native.Mathlib.Omega.{arith}
use Rattle.format.specs.declared.kinds.Kind.{Kind}
use Rattle.format.specs.Lengths.{Form, nothing, one_point, many_points, parts, several, several_form, front_words}
use Rattle.format.proofs.Equations.{front_many, front-parts}
use Rattle.rules.specs.Rules.{Taken, words_of, parts_of, P13}
use Rattle.rules.proofs.HeadLaws.{fits, fits13, few13}
use Rattle.pair.specs.Plans.{has_parts, points_alone}

-- ---- with several points, and without

pub form_is : (f : Form) → several f ≡ true → f ≡ several_form (has_parts f)
form_is nothing e = absurd (let z : ◌≡◌ {A = ℕ} 0 1 = cc in omega arith)
form_is one_point e = absurd (let z : ◌≡◌ {A = ℕ} 0 1 = cc in omega arith)
form_is many_points e = refl
form_is parts e = refl

plain : (k : Kind) (f : Form) (l : List ℕ) → several f ≡ false → fits (record { kind = k; form = f }) 0 (points_alone f) (words_of l) ≡ P13 (record { kind = k; form = f }) l
plain k nothing l e = sym (fits13 (record { kind = k; form = nothing }) l)
plain k one_point l e = sym (fits13 (record { kind = k; form = one_point }) l)
plain k many_points l e = absurd (let z : ◌≡◌ {A = ℕ} 0 1 = cc in omega arith)
plain k parts l e = absurd (let z : ◌≡◌ {A = ℕ} 0 1 = cc in omega arith)

pub plain13 : (t : Taken) (l : List ℕ) → several t.form ≡ false → fits t 0 (points_alone t.form) (words_of l) ≡ P13 t l
plain13 t l e = plain t.kind t.form l e

-- the words in front of them at least
front-least : (b : Bool) (p : ℕ) → 20 ≤ front_words (several_form b) p
front-least true p = omega (arith, front-parts p)
front-least false p = omega (arith, front_many p)

pub least13 : (b : Bool) (t : Taken) (l : List ℕ) → t.form ≡ several_form b → words_of l < 20 → false ≡ P13 t l
least13 b t l h w = few13 b t l h 20 (front-least b (parts_of (several_form b) l)) w
