-- Laws of tests in order: an answer goes on into another, and a refusal stays; and fields are whole or cut, as the code finds them.
use mathlib.Core.Path.{◌≡◌, refl, ap, ◌∙◌}
use mathlib.Core.Bool.{Bool, true, false, cond}
use mathlib.Core.List.{List, [], ◌∷◌, map}
use Prim.Native.Nat.{ℕ, ◌≤◌, ◌<◌}
use native.Mathlib.Omega.{arith}
use lib.ListN.{length}
use Rattle.std.specs.Prelude.{Result, Ok, Err, IsErrAnd}
use Rattle.format.specs.declared.shapes.Short.{Short}
use Rattle.format.specs.Order.{first, fields_from}
use Rattle.format.specs.Said.{Said, gives, refuses, short}
use Rattle.format.proofs.OrderLaws.{fields_whole, fields_cut}
use Rattle.fields.specs.Checked.{FieldsEnd}

module _ {A B : Type 0} (f : A → Said B) where
  abbrev pub carry : Said A → Said B
  carry (gives a) = f a
  carry (refuses n vs) = refuses n vs

  abbrev pub carried : List (Bool × Said A) → List (Bool × Said B)
  carried ts = map (λ t. (t.0, carry t.1)) ts

  by_test : (b : Bool) (x y : Said A) → cond b (carry x) (carry y) ≡ carry (cond b x y)
  by_test true x y = refl
  by_test false x y = refl

  pub first_carry : (ts : List (Bool × Said A)) (a : Said A) → first (carried ts) (carry a) ≡ carry (first ts a)
  first_carry [] a = refl
  first_carry (t ∷ ts) a = rw (first_carry ts a) (by_test t.0 (first ts a) t.1)

-- ---- n fields of w bytes each, from a place on

module _ (w : ℕ) (pw : 0 < w) (n at : ℕ) (s : List ℕ) {A : Type 0} (a : Said A) where
  pub fields_pass : (end : ℕ) → FieldsEnd w n at (length s) (Ok end) → first (fields_from w n at s short) a ≡ a
  fields_pass end h = fields_whole w pw n at s short a (omega arith)

  pub fields_stop : (e : Short) → at ≤ length s → FieldsEnd w n at (length s) (Err e) → first (fields_from w n at s short) a ≡ short e.at e.present
  fields_stop e h c = fields_cut w pw n at s short a h c.0 ∙ rw c.1

-- ---- the error that a `?` makes

pub told_err : {T E : Type 0} (r : Result T E) (e : E) → IsErrAnd r (λ x. x ≡ e) → r ≡ Err e
told_err (Ok x) e h = absurd h
told_err (Err x) e h = ap Err h
