-- Refusals that name a place lie within the bytes: where the bytes end inside a field, those of its bytes that are present are the last ones, and fewer than its width.
use mathlib.Core.Path.{◌≡◌, refl, subst}
use mathlib.Core.Bool.{Bool, true, false, cond, ◌||◌}
use mathlib.Core.List.{List, [], ◌∷◌}
use Prim.Native.Nat.{ℕ, zero, suc, ◌+◌, ◌*◌, ◌≤◌, ◌<◌, zero-le}
use native.Mathlib.Nat.{mul-suc, mul-zero}
use native.Mathlib.Omega.{arith}
use lib.Dec.{T, eqb}
use lib.IntN.{ℤ, pos, nat_abs}
use lib.ListN.{length}
use borrow.Author.Tests.{leb-true, leb-false, eqb-true}
use Rattle.format.specs.Bytes.{field}
use Rattle.format.specs.Order.{first, whole, field_at, fields_from}
use Rattle.format.specs.Said.{Said, gives, refuses, short}
use Rattle.format.proofs.ByteLaws.{length_cut}
use Rattle.format.proofs.SaidLaws.{value}

-- ---- the values of a refusal

-- with 1: the bytes end inside the field at a place, which is so wide as `width` has it
pub record EndsInside (width : ℕ → ℕ) (s : List ℕ) (values : List ℤ) : Type 0 where
  pub at : ℕ
  pub present : ℕ
  pub are : values ≡ pos at ∷ pos present ∷ []
  pub ends : at + present ≡ length s
  pub fewer : present < width at

-- with 3: the place of a size
pub record Inside (s : List ℕ) (values : List ℤ) : Type 0 where
  pub at : ℕ
  pub are : values ≡ pos at ∷ []
  pub near : at ≤ length s

-- ---- of a call that has the bytes s

module _ (width : ℕ → ℕ) (s : List ℕ) where
  abbrev pub ValuesPlaced : ℕ → List ℤ → Type 0
  ValuesPlaced n values = (n ≡ 1 → EndsInside width s values) × (n ≡ 3 → Inside s values)

  abbrev pub Placed : {A : Type 0} → Said A → Type 0
  Placed (gives a) = Unit {0}
  Placed (refuses n values) = ValuesPlaced n values

  -- a refusal that names no place
  pub elsewhere : (n : ℕ) (values : List ℤ) → eqb n 1 || eqb n 3 ≡ false → ValuesPlaced n values
  elsewhere n values e = ((λ i. absurd (subst T (rw i at e) tt)), (λ i. absurd (subst T (rw i at e) tt)))

  pub size_placed : (at : ℕ) → at ≤ length s → ValuesPlaced 3 (pos at ∷ [])
  size_placed at h = ((λ e. absurd (omega arith)), (λ e. record { at = at; are = refl; near = h }))

module _ (width : ℕ → ℕ) (s : List ℕ) {A : Type 0} where
  -- ---- tests in order, before an answer a

  pub test_placed : (b : Bool) (a r : Said A) → Placed width s r → (b ≡ true → Placed width s a) → Placed width s (cond b a r)
  test_placed true a r h k = k refl
  test_placed false a r h k = h

  field_by : (b : Bool) (w at : ℕ) → whole w at s ≡ b → at ≤ length s → width at ≡ w → (a : Said A) → (at + w ≤ length s → Placed width s a) → Placed width s (cond b a (short at (length (field w at s))))
  field_by true w at e h f a k = k (leb-true (at + w) (length s) e)
  field_by false w at e h f a k =
      let l : length s < at + w = leb-false (at + w) (length s) e in
      let c = length_cut w at s (omega arith) in
      ((λ i. record { at = at; present = length (field w at s); are = refl; ends = omega (arith, c); fewer = omega (arith, c, f) }), (λ i. absurd (omega arith)))

  pub field_placed : (w at : ℕ) → at ≤ length s → width at ≡ w → (a : Said A) → (at + w ≤ length s → Placed width s a) → Placed width s (first (field_at w at s short ∷ []) a)
  field_placed w at h f a k = field_by (whole w at s) w at refl h f a k

  pub fields_placed : (w n at : ℕ) → 0 < w → at ≤ length s → ((p : ℕ) → at ≤ p → p < at + w * n → width p ≡ w) → (a : Said A) → (at + w * n ≤ length s → Placed width s a) → Placed width s (first (fields_from w n at s short) a)
  fields_placed w zero at pw h f a k = k (rw mul-zero (omega arith))
  fields_placed w (suc n) at pw h f a k =
      let g : (p : ℕ) → at ≤ p → p < at + (w * n + w) → width p ≡ w = λ p i j. f p i (rw mul-suc j) in
      field_placed w at h (g at (omega arith) (omega arith)) (first (fields_from w n (at + w) s short) a)
      (λ q. fields_placed w n (at + w) pw q (λ p i j. g p (omega arith) (omega arith)) a (λ r. k (rw mul-suc (omega arith))))

-- ---- the offset, so that a caller may move it

-- of a refusal that names a place
abbrev pub offset : {A : Type 0} → Said A → ℕ
offset (gives a) = 0
offset (refuses n values) = cond (eqb n 1 || eqb n 3) (nat_abs (value values)) 0

module _ (width : ℕ → ℕ) (s : List ℕ) where
  offset_by : (b c : Bool) (n : ℕ) (values : List ℤ) → eqb n 1 ≡ b → eqb n 3 ≡ c → ValuesPlaced width s n values → cond (b || c) (nat_abs (value values)) 0 ≤ length s
  offset_by true c n values e f p = let i = p.0 (eqb-true n 1 e) in rw i.are (omega (arith, i.ends))
  offset_by false true n values e f p = let i = p.1 (eqb-true n 3 f) in rw i.are i.near
  offset_by false false n values e f p = zero-le

  pub offset_within : {A : Type 0} (said : Said A) → Placed width s said → offset said ≤ length s
  offset_within (gives a) p = zero-le
  offset_within (refuses n values) p = offset_by (eqb n 1) (eqb n 3) n values refl refl p
