-- Laws of part arithmetic: when a difference is a count, by the tests of the code, and the parts one after the other.
use mathlib.Core.Path.{◌≡◌, refl, sym, ap, ◌∙◌}
use mathlib.Core.Bool.{Bool, true, false, cond}
use mathlib.Core.List.{List, [], ◌∷◌}
use Prim.Native.Nat.{ℕ, zero, suc, ◌+◌, ◌-◌, ◌^◌, ◌≤◌, ◌<◌}
use native.Mathlib.Omega.{arith}
use lib.IntN.{ℤ, pos, negsuc, nat_abs, ◌-ℤ◌}
use lib.Signed.{lt_z}
use lib.ListN.{length}
use mir.Syntax.{w32, w64}
use mir.Val.{SFits, to_z, of_z}
use borrow.Author.Tests.{lt-ltb, le-ltb, ltb-true, ltb-false}
use Rattle.std.specs.Prelude.{Option, Some, None, unwrap_or}
use Rattle.std.proofs.lemmas.Int.{ints}
use Rattle.format.specs.Numbers.{le_i32}
use Rattle.format.specs.Said.{gives, wrong_size}
use Rattle.multipart.specs.Answers.{said_part, part_of}
use Rattle.multipart.specs.Parts.{is_count, count_of, differences, starts_at}
use Rattle.multipart.specs.Walks.{end_of}

-- ---- what is said of a part, by the code's tests of the difference

-- the difference as the code has it, which an i64 holds
abbrev coded : ℤ → ℤ → ℤ
coded x y = to_z w64 (of_z w64 (to_z w64 (of_z w64 x) -ℤ to_z w64 (of_z w64 y)))

pub difference_is : (start end x y : ℤ) → SFits w32 start → SFits w32 end → x ≡ to_z w32 (of_z w32 end) → y ≡ to_z w32 (of_z w32 start) → coded x y ≡ end -ℤ start
difference_is start end x y f g h k = omega (arith, ints)

negative_none : (d : ℤ) → lt_z d (pos 0) ≡ true → is_count d ≡ false
negative_none (pos n) e = absurd (omega (arith, ltb-true n 0 e))
negative_none (negsuc n) e = refl

large_none : (d : ℤ) → lt_z (pos 0x7fff_ffff) d ≡ true → is_count d ≡ false
large_none (pos n) e = le-ltb n (2 ^ 31) (ltb-true 0x7fff_ffff n e)
large_none (negsuc n) e = refl

small_count : (d : ℤ) → lt_z d (pos 0) ≡ false → lt_z (pos 0x7fff_ffff) d ≡ false → is_count d ≡ true
small_count (pos n) e h = let k : n < 2 ^ 31 = omega (arith, ltb-false 0x7fff_ffff n h) in lt-ltb n (2 ^ 31) k
small_count (negsuc n) e h = absurd (let z : ◌≡◌ {A = Bool} true false = e in cc)

module _ (start end d : ℤ) (is : d ≡ end -ℤ start) where
  pub negative_part : lt_z d (pos 0) ≡ true → wrong_size 0 ≡ part_of start end
  unfolding part_of
  negative_part e = rw (← is, negative_none d e)

  -- the tests against a number that is i32's largest
  module _ (most : ℤ) (most_is : most ≡ pos 0x7fff_ffff) where
    pub large_part : lt_z (to_z w64 (of_z w64 most)) d ≡ true → wrong_size 0 ≡ part_of start end
    unfolding part_of
    large_part e = rw (← is, large_none d (rw most_is at e))

    pub counted_part : lt_z d (pos 0) ≡ false → lt_z (to_z w64 (of_z w64 most)) d ≡ false → gives (nat_abs d) ≡ part_of start end
    unfolding part_of
    counted_part e h = rw (← is, small_count d e (rw most_is at h))

-- and back: what the answer tells of the difference

given_by : (b : Bool) (x k : ℕ) → gives k ≡ cond b (gives x) (wrong_size 0) → (b ≡ true) × (cond b x 0 ≡ k)
given_by true x k e = (refl, cc)
given_by false x k e = absurd (let z : ◌≡◌ {A = ℕ} 0 1 = cc in omega arith)

refused_by : (b : Bool) (x : ℕ) → wrong_size 0 ≡ cond b (gives x) (wrong_size 0) → b ≡ false
refused_by true x e = absurd (let z : ◌≡◌ {A = ℕ} 0 1 = cc in omega arith)
refused_by false x e = refl

module _ (start end : ℤ) where
  pub is-count : (k : ℕ) → gives k ≡ part_of start end → (is_count (end -ℤ start) ≡ true) × (count_of (end -ℤ start) ≡ k)
  unfolding part_of
  is-count k e = given_by (is_count (end -ℤ start)) (nat_abs (end -ℤ start)) k e

  pub no_count : wrong_size 0 ≡ part_of start end → is_count (end -ℤ start) ≡ false
  unfolding part_of
  no_count e = refused_by (is_count (end -ℤ start)) (nat_abs (end -ℤ start)) e

-- the count that is told, and none where the part is refused
pub count_told : (start end : ℤ) (r : Option ℕ) → said_part r ≡ part_of start end → unwrap_or r 0 ≡ count_of (end -ℤ start)
count_told start end (Some k) e = sym (is-count start end k e).1
count_told start end None e = rw (no_count start end e)

-- ---- the parts one after the other

pub next_start : (k at : ℕ) (s : List ℕ) (n : ℤ) → 0 < k → end_of (starts_at k at s) n ≡ le_i32 at s
unfolding starts_at
next_start zero at s n h = absurd (omega arith)
next_start (suc k) at s n h = refl

pub last_end : (k at : ℕ) (s : List ℕ) (n : ℤ) → k ≤ 0 → end_of (starts_at k at s) n ≡ n
unfolding starts_at
last_end zero at s n h = refl
last_end (suc k) at s n h = absurd (omega arith)

differences-cons : (a : ℤ) (starts : List ℤ) (n : ℤ) → differences (a ∷ starts) n ≡ (end_of starts n -ℤ a) ∷ differences starts n
unfolding differences
differences-cons a [] n = refl
differences-cons a (b ∷ starts) n = refl

-- the differences of k parts, whose starts stand from a place on
abbrev pub differences_from : ℕ → ℕ → ℤ → List ℕ → List ℤ
differences_from k start n s = differences (starts_at k start s) n

-- that of the first of them, which k others follow
abbrev pub difference_at : ℕ → ℕ → ℤ → List ℕ → ℤ
difference_at k start n s = end_of (starts_at k (start + 4) s) n -ℤ le_i32 start s

pub one_more : (left start : ℕ) (n : ℤ) (s : List ℕ) → 0 < left → differences_from left start n s ≡ difference_at (left - 1) start n s ∷ differences_from (left - 1) (start + 4) n s
unfolding starts_at
one_more left start n s h =
    let e : left ≡ suc (left - 1) = omega arith in
    ap (λ (k : ℕ). differences_from k start n s) e ∙ differences-cons (le_i32 start s) (starts_at (left - 1) (start + 4) s) n

pub no_more : (left start : ℕ) (n : ℤ) (s : List ℕ) → left ≤ 0 → differences_from left start n s ≡ []
unfolding differences starts_at
no_more zero start n s h = refl
no_more (suc left) start n s h = absurd (omega arith)

-- ---- as many differences as parts

length-differences : (xs : List ℤ) (n : ℤ) → length (differences xs n) ≡ length xs
unfolding differences
length-differences [] n = refl
length-differences (a ∷ []) n = refl
length-differences (a ∷ b ∷ xs) n = ap suc (length-differences (b ∷ xs) n)

length-starts_at : (k at : ℕ) (s : List ℕ) → length (starts_at k at s) ≡ k
unfolding starts_at
length-starts_at zero at s = refl
length-starts_at (suc k) at s = ap suc (length-starts_at k (at + 4) s)

pub length-differences_from : (left start : ℕ) (n : ℤ) (s : List ℕ) → length (differences_from left start n s) ≡ left
length-differences_from left start n s = length-differences _ n ∙ length-starts_at left start s
