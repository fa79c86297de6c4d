-- Doubles compared by their bits, for code that is not to ask the processor, which in some modes takes the smallest doubles for zeros.
-- Two that are no NaN compare as their signs and the numbers behind the signs do.
use mathlib.Core.Path.{◌≡◌, refl, sym, ap, ap₂, ◌∙◌}
use mathlib.Core.Logic.{◌⊎◌, inl, inr}
use mathlib.Core.Bool.{Bool, true, false, not, ◌&&◌, ◌||◌, beq, or-false, or-true, and-false}
use Prim.Native.Nat.{ℕ, zero, suc, ◌+◌, ◌-◌, ◌*◌, ◌/◌, ◌%◌, ◌^◌, ◌≤◌, ◌<◌}
use native.Mathlib.Nat.{le_of_eq, le_of_lt, le_trans, le_antisymm, le_of_suc-le-suc, lt_of_lt_of_le, eq-or-lt_of_le, le-add_right, add-mul, mul-add, mul-le-mul_left, mul-le-mul_right, mul-lt-mul_of_pos_right, mul_assoc, mul_right_comm, mul-pos, zero-mul, zero-div, zero-mod, mod-lt, div-lt_iff_lt-mul, div-add-mod', mul-div_cancel, mul-mod_left, mod-mod_of_dvd, dvd-mul_right, two-pow-succ}
use native.Mathlib.Omega.{arith}
use lib.Dec.{ltb, leb, eqb, eqb-suc-zero, eqb-zero-suc}
use lib.Pow.{pow_pos, pow_mono, shr_mono}
use lib.Ieee.{Float, nan, inf, fin, Format, binary32, binary64, prec, low, hid, ones, top, up, down, below, level, lt, eq, of_fields, of_bits}
use lib.Ieee.Exact.{HasValue, odd_sign}
use lib.Ieee.Fits.{down_pos}
use borrow.Author.Tests.{ltb-true, ltb-false, leb-true, leb-false, eqb-true, eqb-false, lt-ltb, le-ltb, le-leb, eq-eqb, ne_eqb}
use Rattle.format.specs.WellFormed.{same_number}
use Rattle.format.proofs.NanLaws.{nan_pattern}

-- ---- comparisons that a growing function keeps

some : (a b : ℕ) → ltb 0 (a + b) ≡ not (eqb a 0 && eqb b 0)
some zero zero = refl
some zero (suc b) = rw (eqb-suc-zero b) (lt-ltb 0 (0 + suc b) (omega arith))
some (suc a) b = rw (eqb-suc-zero a) (lt-ltb 0 (suc a + b) (omega arith))

module _ (g : ℕ → ℕ) (none : g 0 ≡ 0) (grows : (a b : ℕ) → a < b → g a < g b) where
  ltb_kept : (a b : ℕ) → ltb a b ≡ ltb (g a) (g b)
  ltb_kept a b = by (ltb a b) refl
    where
      by : (t : Bool) → ltb a b ≡ t → t ≡ ltb (g a) (g b)
      by true e = sym (lt-ltb (g a) (g b) (grows a b (ltb-true a b e)))
      by false e = sym (le-ltb (g a) (g b) (elim (eq-or-lt_of_le (ltb-false a b e)) [ inl q ↦ le_of_eq (ap g q) | inr l ↦ le_of_lt (grows b a l) ]))

  back : (a b : ℕ) → g a ≤ g b → a ≤ b
  back a b h = ltb-false b a (ltb_kept b a ∙ le-ltb (g b) (g a) h)

  eqb_kept : (a b : ℕ) → eqb a b ≡ eqb (g a) (g b)
  eqb_kept a b = by (eqb a b) refl
    where
      by : (t : Bool) → eqb a b ≡ t → t ≡ eqb (g a) (g b)
      by true e = sym (eq-eqb (g a) (g b) (ap g (eqb-true a b e)))
      by false e = sym (ne_eqb (g a) (g b) (λ q. eqb-false a b e (le_antisymm (back a b (le_of_eq q)) (back b a (le_of_eq (sym q))))))

  zero_kept : (a : ℕ) → eqb a 0 ≡ eqb (g a) 0
  zero_kept a = eqb_kept a 0 ∙ ap (eqb (g a)) none

  below_kept : (s t : Bool) (a b : ℕ) → below s a t b ≡ below s (g a) t (g b)
  below_kept false false a b = ltb_kept a b
  below_kept false true a b = refl
  below_kept true false a b = some a b ∙ ap₂ (λ x y. not (x && y)) (zero_kept a) (zero_kept b) ∙ sym (some (g a) (g b))
  below_kept true true a b = ltb_kept b a

  level_kept : (s t : Bool) (a b : ℕ) → level s a t b ≡ level s (g a) t (g b)
  level_kept s t a b = ap₂ (λ x y. x && (beq s t || y)) (eqb_kept a b) (zero_kept a)

-- the first is the larger, the second is, and neither is

over : (p q : ℕ) → q < p → (s t : Bool) → s ≡ below s p t q
over p q l false false = sym (le-ltb p q (le_of_lt l))
over p q l false true = refl
over p q l true false = sym (lt-ltb 0 (p + q) (omega arith))
over p q l true true = sym (lt-ltb q p l)

under : (p q : ℕ) → p < q → (s t : Bool) → not t ≡ below s p t q
under p q l false false = sym (lt-ltb p q l)
under p q l false true = refl
under p q l true false = sym (lt-ltb 0 (p + q) (omega arith))
under p q l true true = sym (le-ltb q p (le_of_lt l))

beside : (p : ℕ) → 0 < p → (s t : Bool) → s && not t ≡ below s p t p
beside p l false false = sym (le-ltb p p (omega arith))
beside p l false true = refl
beside p l true false = sym (lt-ltb 0 (p + p) (omega arith))
beside p l true true = sym (le-ltb p p (omega arith))

apart : (s t : Bool) (p q : ℕ) → (p ≡ q → ⊥) → false ≡ level s p t q
apart s t p q n = rw (ne_eqb p q n)

-- a comparison that every growing function keeps
abbrev Kept : (ℕ → ℕ → Bool) → Type 0
Kept K = (g : ℕ → ℕ) → g 0 ≡ 0 → ((a b : ℕ) → a < b → g a < g b) → (a b : ℕ) → K a b ≡ K (g a) (g b)

scaled : (K : ℕ → ℕ → Bool) → Kept K → (c : ℕ) → 0 < c → (a b : ℕ) → K a b ≡ K (a * c) (b * c)
scaled K k c h a b = k (λ x. x * c) (zero-mul c) (λ x y l. mul-lt-mul_of_pos_right l h) a b

-- ---- values that compare as two signs and numbers do: n, where neither is a NaN

abbrev pub Compares : Bool → Float → Float → Bool → ℕ → Bool → ℕ → Type 0
Compares n x y s p t q = (lt x y ≡ n && below s p t q) × (eq x y ≡ n && level s p t q)

nan_right : (x : Float) → (lt x nan ≡ false) × (eq x nan ≡ false)
unfolding lt eq
nan_right nan = (refl, refl)
nan_right (inf s) = (refl, refl)
nan_right (fin s m e) = (refl, refl)

-- ---- the value grows with the number behind the sign

ones_infinite : (f : Format) (s : Bool) → of_fields f s (ones f) 0 ≡ inf s
unfolding of_fields
ones_infinite binary32 s = refl
ones_infinite binary64 s = refl

module _ (f : Format) where
  -- what the exponent's field x and the digits t come to, in smallest values
  abbrev size_of : ℕ → ℕ → ℕ
  size_of zero t = t * 2 ^ 0
  size_of (suc x) t = (hid f + t) * 2 ^ x

  hid_pos : 0 < hid f
  hid_pos = pow_pos (prec f - 1)

  binade : (x t : ℕ) → t < hid f → size_of x t < hid f * 2 ^ x
  binade zero t l = mul-lt-mul_of_pos_right l (pow_pos 0)
  binade (suc x) t l =
      let a : hid f * 2 ^ suc x ≡ (hid f + hid f) * 2 ^ x = rw (two-pow-succ x, mul-add, add-mul) refl in
      let b : hid f + t < hid f + hid f = omega arith in
      rw a (mul-lt-mul_of_pos_right b (pow_pos x))

  field_grows : (x y t u : ℕ) → t < hid f → x < y → size_of x t < size_of y u
  field_grows x zero t u h l = absurd (omega arith)
  field_grows x (suc y) t u h l =
      lt_of_lt_of_le (binade x t h) (le_trans (mul-le-mul_left (hid f) (pow_mono (le_of_suc-le-suc l))) (mul-le-mul_right (2 ^ y) (le-add_right (hid f) u)))

  digits_grow : (x t u : ℕ) → t < u → size_of x t < size_of x u
  digits_grow zero t u l = mul-lt-mul_of_pos_right l (pow_pos 0)
  digits_grow (suc x) t u l = let a : hid f + t < hid f + u = omega arith in mul-lt-mul_of_pos_right a (pow_pos x)

  abbrev weight : ℕ → ℕ
  weight p = size_of (p / hid f) (p % hid f)

  weight_grows : (p q : ℕ) → p < q → weight p < weight q
  weight_grows p q l = by (eq-or-lt_of_le (shr_mono (prec f - 1) (le_of_lt l)))
    where
      by : (p / hid f ≡ q / hid f) ⊎ (p / hid f < q / hid f) → weight p < weight q
      by (inl e) =
          let a : p / hid f * hid f ≡ q / hid f * hid f = ap (λ x. x * hid f) e in
          let b : p % hid f < q % hid f = omega (arith, div-add-mod' p (hid f), div-add-mod' q (hid f)) in
          rw e (digits_grow (q / hid f) (p % hid f) (q % hid f) b)
      by (inr k) = field_grows (p / hid f) (q / hid f) (p % hid f) (q % hid f) (mod-lt p hid_pos) k

  weight_none : weight 0 ≡ 0
  weight_none = rw (zero-div (hid f), zero-mod (hid f))

  -- ---- the value that bits stand for: its sign, and the number behind it

  abbrev Stands : Float → Bool → ℕ → Type 0
  Stands nan s p = ⊥
  Stands (inf t) s p = (t ≡ s) × (p ≡ ones f * hid f)
  Stands (fin t m e) s p = (t ≡ s) × (m * up e * 2 ^ low f ≡ weight p * down e) × (p < ones f * hid f)

  finite_stands : (v : Float) (s : Bool) (p : ℕ) → HasValue v s (weight p) (2 ^ low f) → p < ones f * hid f → Stands v s p
  finite_stands nan s p h l = h
  finite_stands (inf t) s p h l = absurd h
  finite_stands (fin t m e) s p h l = (h.0, h.1, l)

  fields_value : (s : Bool) (x t : ℕ) → x < ones f → HasValue (of_fields f s x t) s (size_of x t) (2 ^ low f)
  unfolding of_fields
  fields_value s zero t l = odd_sign (prec f) s t 0 (low f)
  fields_value s (suc x) t l = rw (ne_eqb (suc x) (ones f) (λ e. omega arith)) (odd_sign (prec f) s (hid f + t) x (low f))

  fields_stand : (s : Bool) (p : ℕ) → p ≤ ones f * hid f → Stands (of_fields f s (p / hid f) (p % hid f)) s p
  fields_stand s p h = by (eq-or-lt_of_le h)
    where
      by : (p ≡ ones f * hid f) ⊎ (p < ones f * hid f) → Stands (of_fields f s (p / hid f) (p % hid f)) s p
      by (inl e) = rw (e, mul-div_cancel (ones f) hid_pos, mul-mod_left (ones f) (hid f), ones_infinite f s) (refl, refl)
      by (inr l) = finite_stands (of_fields f s (p / hid f) (p % hid f)) s p (fields_value s (p / hid f) (p % hid f) ((div-lt_iff_lt-mul hid_pos).1 l)) l

  bits_stand : (b : ℕ) → b % top f ≤ ones f * hid f → Stands (of_bits f b) (leb (top f) b) (b % top f)
  unfolding of_bits
  bits_stand b h = rw (← mod-mod_of_dvd (hid f) b (dvd-mul_right (hid f) (suc (ones f)))) (fields_stand (leb (top f) b) (b % top f) h)

  -- ---- two values compared

  -- of finite values a / d and b / e, where c is the smallest value's denominator
  by_weights : (K : ℕ → ℕ → Bool) → Kept K → (a d b e c p q : ℕ) → 0 < c → 0 < d → 0 < e → a * c ≡ weight p * d → b * c ≡ weight q * e → K (a * e) (b * d) ≡ K p q
  by_weights K k a d b e c p q C D E v w =
      let x : a * e * c ≡ weight p * (d * e) = mul_right_comm a e c ∙ ap (λ z. z * e) v ∙ mul_assoc (weight p) d e in
      let y : b * d * c ≡ weight q * (d * e) = mul_right_comm b d c ∙ ap (λ z. z * d) w ∙ mul_right_comm (weight q) e d ∙ mul_assoc (weight q) d e in
      scaled K k c C (a * e) (b * d) ∙ ap₂ K x y ∙ sym (k weight weight_none weight_grows p q ∙ scaled K k (d * e) (mul-pos D E) (weight p) (weight q))

  stand_compare : (x y : Float) (s t : Bool) (p q : ℕ) → Stands x s p → Stands y t q → Compares true x y s p t q
  unfolding lt eq
  stand_compare nan y s t p q v w = absurd v
  stand_compare (inf s') nan s t p q v w = absurd w
  stand_compare (inf s') (inf t') s t p q v w =
      let o : 0 < ones f = omega arith in
      let l : 0 < p = rw v.1 (mul-pos o hid_pos) in
      rw (← v.0, ← w.0, w.1, ← v.1) (beside p l s' t', rw (eq-eqb p p refl, ne_eqb p 0 (λ e. omega arith)) (sym (or-false (beq s' t'))))
  stand_compare (inf s') (fin t' n d) s t p q v w =
      let l : q < p = rw v.1 w.2 in
      rw (← v.0, ← w.0) (over p q l s' t', apart s' t' p q (λ e. omega arith))
  stand_compare (fin s' m e) nan s t p q v w = absurd w
  stand_compare (fin s' m e) (inf t') s t p q v w =
      let l : p < q = rw w.1 v.2 in
      rw (← v.0, ← w.0) (under p q l s' t', apart s' t' p q (λ e. omega arith))
  stand_compare (fin s' m e) (fin t' n d) s t p q v w =
      let u : (K : ℕ → ℕ → Bool) → Kept K → K (m * up e * down d) (n * up d * down e) ≡ K p q =
      λ K k. by_weights K k (m * up e) (down e) (n * up d) (down d) (2 ^ low f) p q (pow_pos (low f)) (down_pos e) (down_pos d) v.1 w.1 in
      rw (← v.0, ← w.0) (u (λ a b. below s' a t' b) (λ g z l. below_kept g z l s' t'), u (λ a b. level s' a t' b) (λ g z l. level_kept g z l s' t'))

  -- ---- two patterns compared: a NaN's is above an infinity's, the signs dropped

  pub bits_compare : (a b : ℕ) → Compares (leb (a % top f) (ones f * hid f) && leb (b % top f) (ones f * hid f)) (of_bits f a) (of_bits f b) (leb (top f) a) (a % top f) (leb (top f) b) (b % top f)
  bits_compare a b = by (leb (a % top f) (ones f * hid f)) (leb (b % top f) (ones f * hid f)) refl refl
    where
      by : (u v : Bool) → leb (a % top f) (ones f * hid f) ≡ u → leb (b % top f) (ones f * hid f) ≡ v → Compares (u && v) (of_bits f a) (of_bits f b) (leb (top f) a) (a % top f) (leb (top f) b) (b % top f)
      by true true d e =
          stand_compare (of_bits f a) (of_bits f b) (leb (top f) a) (leb (top f) b) (a % top f) (b % top f) (bits_stand a (leb-true _ _ d)) (bits_stand b (leb-true _ _ e))
      by true false d e = rw (nan_pattern f b (leb-false (b % top f) (ones f * hid f) e)) (nan_right (of_bits f a))
      by false v d e = rw (nan_pattern f a (leb-false (a % top f) (ones f * hid f) d)) (unfold lt eq in (refl, refl))

-- ---- equal as numbers: two zeros, or equal bits that are no NaN's

module _ (a b : ℕ) where
  pub same_zeros : a % 2 ^ 63 ≡ 0 → same_number a b ≡ eqb (b % 2 ^ 63) 0
  same_zeros z = (bits_compare binary64 a b).1 ∙ rw (z, or-true) (by (b % 2 ^ 63))
    where
      by : (q : ℕ) → leb q 0x7ff0_0000_0000_0000 && (eqb 0 q && true) ≡ eqb q 0
      by zero = refl
      by (suc q) = rw (eqb-zero-suc q, eqb-suc-zero q, and-false)

  same_signs : a < 2 ^ 64 → b < 2 ^ 64 → a % 2 ^ 63 ≡ b % 2 ^ 63 → (s t : Bool) → leb (2 ^ 63) a ≡ s → leb (2 ^ 63) b ≡ t → beq s t ≡ eqb a b
  same_signs A B e true true d c = sym (eq-eqb a b (omega (arith, leb-true, leb-false)))
  same_signs A B e true false d c = sym (ne_eqb a b (λ k. omega (arith, leb-true, leb-false)))
  same_signs A B e false true d c = sym (ne_eqb a b (λ k. omega (arith, leb-true, leb-false)))
  same_signs A B e false false d c = sym (eq-eqb a b (omega (arith, leb-true, leb-false)))

  pub same_others : a < 2 ^ 64 → b < 2 ^ 64 → (a % 2 ^ 63 ≡ 0 → ⊥) → a % 2 ^ 63 ≤ 0x7ff0_0000_0000_0000 → same_number a b ≡ eqb a b
  same_others A B n h = (bits_compare binary64 a b).1 ∙ rw (le-leb (a % 2 ^ 63) 0x7ff0_0000_0000_0000 h, ne_eqb (a % 2 ^ 63) 0 n, or-false) (by (eqb (a % 2 ^ 63) (b % 2 ^ 63)) refl)
    where
      by : (c : Bool) → eqb (a % 2 ^ 63) (b % 2 ^ 63) ≡ c → leb (b % 2 ^ 63) 0x7ff0_0000_0000_0000 && (c && beq (leb (2 ^ 63) a) (leb (2 ^ 63) b)) ≡ eqb a b
      by true e =
          let k : a % 2 ^ 63 ≡ b % 2 ^ 63 = eqb-true _ _ e in
          rw (← k, le-leb (a % 2 ^ 63) 0x7ff0_0000_0000_0000 h) (same_signs A B k (leb (2 ^ 63) a) (leb (2 ^ 63) b) refl refl)
      by false e = rw and-false (sym (ne_eqb a b (λ k. eqb-false _ _ e (ap (λ x. x % 2 ^ 63) k))))
