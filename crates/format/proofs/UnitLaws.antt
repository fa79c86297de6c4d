-- Laws of lengths in words and in bytes: what fits, and that words are bytes halved exactly where bytes are words doubled.
use mathlib.Core.Path.{◌≡◌, refl, sym, ap, ◌∙◌, subst}
use mathlib.Core.Bool.{Bool, true, false, cond, ◌&&◌}
use Prim.Native.Nat.{ℕ, ◌+◌, ◌*◌, ◌^◌, ◌≤◌, ◌<◌}
use native.Mathlib.Omega.{arith}
use lib.Dec.{T, eqb}
use lib.IntN.{ℤ, pos, negsuc, ◌+ℤ◌}
use lib.Signed.{lt_z, mag, shr_z, mag_shr}
use mir.Syntax.{Width, w32, w64}
use mir.Val.{SFits, to_z, of_z}
use mir.ValLaws.{to_z-of_z, sfits_le}
use Rattle.std.specs.Prelude.{Result, Ok, Err}
use borrow.Author.Tests.{lt-ltb, le-ltb, ltb-true, ltb-false, eq-eqb, ne_eqb, eqb-true, eqb-false}
use Rattle.format.specs.declared.units.Bytes.{Bytes}
use Rattle.format.specs.declared.units.NotWords.{NotWords}
use Rattle.format.specs.declared.units.Words.{Words}
use Rattle.format.specs.Said.{gives, wrong_size}
use Rattle.format.specs.Units.{same_int, in_i32, half, said_words, in_words}
use Rattle.format.proofs.OrderLaws.{both_true}

-- ---- what fits

pub wide : (z : ℤ) → SFits w32 z → SFits w64 z
wide z f = record { sfits = omega (arith, f.sfits) }

pub half-fits : (z : ℤ) → SFits w64 z → SFits w64 (shr_z z 2)
half-fits z f = sfits_le (mag_shr z 2) f

-- ---- the tests of the definition, from those of the code

-- and from what a conversion to i32 says
pub not_in_i32 : (z : ℤ) → (SFits w32 z → ⊥) → in_i32 z ≡ false
not_in_i32 z lacks = go (in_i32 z) refl
  where
    go : (b : Bool) → in_i32 z ≡ b → b ≡ false
    go true t = absurd (lacks (record { sfits = ltb-true (mag z) (2 ^ 31) t }))
    go false t = refl

pub same_yes : (x y : ℤ) → x ≡ y → same_int x y ≡ true
same_yes x y e = subst (λ (z : ℤ). same_int x z ≡ true) e (itself x)
  where
    itself : (z : ℤ) → same_int z z ≡ true
    itself (pos n) = eq-eqb n n refl
    itself (negsuc n) = eq-eqb n n refl

pub same_no : (x y : ℤ) → (x ≡ y → ⊥) → same_int x y ≡ false
same_no (pos a) (pos b) e = ne_eqb a b (λ p. e (ap pos p))
same_no (pos a) (negsuc b) e = refl
same_no (negsuc a) (pos b) e = refl
same_no (negsuc a) (negsuc b) e = ne_eqb a b (λ p. e (ap negsuc p))

pub same_is : (x y : ℤ) → same_int x y ≡ true → x ≡ y
same_is (pos a) (pos b) e = ap pos (eqb-true a b e)
same_is (pos a) (negsuc b) e = absurd (subst T (sym e) tt)
same_is (negsuc a) (pos b) e = absurd (subst T (sym e) tt)
same_is (negsuc a) (negsuc b) e = ap negsuc (eqb-true a b e)

-- and so are their doubles
pub doubled_same : (z : ℤ) (n : ℕ) → same_int z (pos n) ≡ same_int (z +ℤ z) (pos (2 * n))
doubled_same (pos m) n = go (eqb m n) refl
  where
    go : (b : Bool) → eqb m n ≡ b → b ≡ eqb (m + m) (2 * n)
    go true t = sym (eq-eqb (m + m) (2 * n) (omega (arith, eqb-true m n t)))
    go false t = sym (ne_eqb (m + m) (2 * n) (λ e. eqb-false m n t (omega (arith, e))))
doubled_same (negsuc m) n = refl

-- numbers with the same bits are the same, at every width
pub same_bits : (w : Width) (x y : ℤ) → SFits w x → SFits w y → of_z w x ≡ of_z w y → x ≡ y
same_bits w x y f g e = sym (to_z-of_z w x f) ∙ (ap (to_z w) e ∙ to_z-of_z w y g)

pub bits_same : (w : Width) (x y : ℤ) → SFits w x → SFits w y → of_z w x ≡ of_z w y → same_int x y ≡ true
bits_same w x y f g e = same_yes x y (same_bits w x y f g e)

pub bits_differ : (w : Width) (x y : ℤ) → (of_z w x ≡ of_z w y → ⊥) → same_int x y ≡ false
bits_differ w x y e = same_no x y (λ p. e (ap (of_z w) p))

-- the code's test, of the bits, is the definition's
pub by_bits : (w : Width) (x y : ℤ) → SFits w x → SFits w y → eqb (of_z w y) (of_z w x) ≡ same_int x y
by_bits w x y f g = go (eqb (of_z w y) (of_z w x)) refl
  where
    go : (b : Bool) → eqb (of_z w y) (of_z w x) ≡ b → b ≡ same_int x y
    go true t = sym (bits_same w x y f g (sym (eqb-true (of_z w y) (of_z w x) t)))
    go false t = sym (bits_differ w x y (λ e. eqb-false (of_z w y) (of_z w x) t (sym e)))

-- ---- what the function answers

module _ (b : Bytes) where
  pub not_held : in_i32 (half b) ≡ false → wrong_size 0 ≡ in_words b
  unfolding in_words
  not_held e = rw e

  pub not_even : (half b +ℤ half b ≡ b.0 → ⊥) → wrong_size 0 ≡ in_words b
  unfolding in_words
  not_even e = rw (same_no (half b +ℤ half b) b.0 e) (go (in_i32 (half b)))
    where
      go : (t : Bool) → wrong_size {A = Words} 0 ≡ cond (t && false) (gives (record { 0 = half b })) (wrong_size 0)
      go true = refl
      go false = refl

  pub is-half : mag (half b) < 2 ^ 31 → half b +ℤ half b ≡ b.0 → gives (record { 0 = half b }) ≡ in_words b
  unfolding in_words
  is-half h e = rw (lt-ltb (mag (half b)) (2 ^ 31) h, same_yes (half b +ℤ half b) b.0 e)

-- and what its answer tells of the bytes: they are the words doubled, or no number of words doubled
module _ (b : Bytes) (r : Result Words NotWords) (e : said_words r ≡ in_words b) where
  abbrev fits : Bool
  fits = in_i32 (half b) && same_int (half b +ℤ half b) b.0

  pub words_doubled : (w : Words) → r ≡ Ok w → w.0 +ℤ w.0 ≡ b.0
  unfolding in_words
  words_doubled w g = go fits refl (ap said_words (sym g) ∙ e)
    where
      go : (t : Bool) → fits ≡ t → gives w ≡ cond t (gives (record { 0 = half b })) (wrong_size 0) → w.0 +ℤ w.0 ≡ b.0
      go true t q =
          let h : w ≡ record { 0 = half b } = cc in
          ap (λ (x : Words). x.0 +ℤ x.0) h ∙ same_is (half b +ℤ half b) b.0 (both_true (in_i32 (half b)) (same_int (half b +ℤ half b) b.0) t).1
      go false t q = absurd (let z : ◌≡◌ {A = ℕ} 0 1 = cc in omega arith)

  pub no_words : (f : NotWords) → r ≡ Err f → (n : ℕ) → n < 2 ^ 31 → b.0 ≡ pos (2 * n) → ⊥
  unfolding in_words
  no_words f g n h d = go fits refl (ap said_words (sym g) ∙ e)
    where
      half_is : half b ≡ pos n
      half_is = ap (λ (z : ℤ). shr_z z 2) d ∙ ap pos (omega arith)

      go : (t : Bool) → fits ≡ t → wrong_size {A = Words} 0 ≡ cond t (gives (record { 0 = half b })) (wrong_size 0) → ⊥
      go true t q = let z : ◌≡◌ {A = ℕ} 0 1 = cc in omega arith
      go false t q =
          let t' : fits ≡ true = rw (half_is, d, lt-ltb n (2 ^ 31) h, eq-eqb (n + n) (2 * n) (omega arith)) in
          let z : ◌≡◌ {A = Bool} true false = sym t' ∙ t in
          subst T z tt
