-- Laws of the three numbers of a shapefile: their widths, and that reading gives back what was written.
use mathlib.Core.Path.{◌≡◌, refl, sym, ap, ◌∙◌}
use mathlib.Core.List.{List, [], ◌∷◌, ◌++◌, map, flatten, append_assoc, map-map}
use Prim.Native.Nat.{ℕ, zero, suc, ◌+◌, ◌*◌, ◌-◌, ◌^◌, ◌≤◌, ◌<◌}
use native.Mathlib.Nat.{mul-suc}
use native.Mathlib.Numerals.{add-one}
use native.Mathlib.Omega.{arith}
use lib.Dec.{T}
use lib.Ieee.{Float, binary64, of_bits, of_int, to_bits, fits}
use lib.Ieee.Bits.{of_bits-to_bits, to_bits-lt, of_bits-fits}
use lib.IntN.{ℤ, pos}
use lib.ListN.{length, get_or, set, length-append}
use lib.Seq.{sets}
use mir.Syntax.{w32}
use mir.Val.{SFits, to_z, of_z}
use mir.ValLaws.{to_z-of_z, of_z-to_z, of_z_fits}
use Rattle.format.specs.Bytes.{le, be, le_bytes, be_bytes, field}
use Rattle.format.specs.Encoding.{doubles, two_big}
use Rattle.format.specs.Numbers.{big, little, double, be_i32, le_i32, le_f64, doubles_at, i32_be, i32_le, f64_le, f64s_le, PlainNan}
use Rattle.format.proofs.ByteLaws.{AllBytes, length_le_bytes, length-be_bytes, le_le_bytes, be-be_bytes, le_bytes_field, be_bytes-field, le_field_lt, be_field_lt}
use Rattle.format.proofs.LayoutLaws.{onto}
use Rattle.format.proofs.NanLaws.{bits_back, back_plain}

-- ---- widths

pub length-big : (n : ℕ) → length (big n) ≡ 4
unfolding big
length-big n = length-be_bytes 4 n

pub length-little : (n : ℕ) → length (little n) ≡ 4
unfolding little
length-little n = length_le_bytes 4 n

pub length-double : (d : ℕ) → length (double d) ≡ 8
unfolding double
length-double d = length_le_bytes 8 d

pub length_two : (a b : ℕ) → length (two_big a b) ≡ 8
unfolding two_big
length_two a b = simp (length-append, length-big)

pub length-i32_be : (z : ℤ) → length (i32_be z) ≡ 4
unfolding i32_be
length-i32_be z = length-big (of_z w32 z)

pub length-i32_le : (z : ℤ) → length (i32_le z) ≡ 4
unfolding i32_le
length-i32_le z = length-little (of_z w32 z)

pub length-f64_le : (x : Float) → length (f64_le x) ≡ 8
unfolding f64_le
length-f64_le x = length-double (to_bits binary64 x)

pub length-f64s_le : (xs : List Float) → length (f64s_le xs) ≡ 8 * length xs
unfolding f64s_le flatten
length-f64s_le [] = refl
length-f64s_le (x ∷ xs) = length-append (f64_le x) (flatten (map f64_le xs)) ∙ omega (arith, length-f64_le x, length-f64s_le xs)

pub length-doubles_at : (step n at : ℕ) (s : List ℕ) → length (doubles_at step n at s) ≡ n
unfolding doubles_at
length-doubles_at step zero at s = refl
length-doubles_at step (suc n) at s = ap suc (length-doubles_at step n (at + step) s)

-- ---- runs of doubles, and two numbers

pub f64s_le-append : (xs ys : List Float) → f64s_le (xs ++ ys) ≡ f64s_le xs ++ f64s_le ys
unfolding f64s_le flatten
f64s_le-append [] ys = refl
f64s_le-append (x ∷ xs) ys = rw append_assoc (ap (λ (l : List ℕ). f64_le x ++ l) (f64s_le-append xs ys))

-- by their bits
pub doubles-bits : (xs : List Float) → doubles (map (to_bits binary64) xs) ≡ f64s_le xs
unfolding doubles f64s_le f64_le
doubles-bits xs = ap flatten (map-map _ (to_bits binary64) xs)

-- one and the others
module _ (step : ℕ) where
  pub doubles_at-zero : (at : ℕ) (s : List ℕ) → doubles_at step 0 at s ≡ []
  unfolding doubles_at
  doubles_at-zero at s = refl

  pub doubles_at-suc : (n at : ℕ) (s : List ℕ) → doubles_at step (suc n) at s ≡ le_f64 at s ∷ doubles_at step n (at + step) s
  unfolding doubles_at
  doubles_at-suc n at s = refl

-- double i, and those from i on
pub doubles-at : (step n at : ℕ) (s : List ℕ) (i : ℕ) (d : Float) → i < n → get_or (doubles_at step n at s) i d ≡ le_f64 (at + step * i) s
unfolding doubles_at
doubles-at step zero at s i d h = absurd (omega arith)
doubles-at step (suc n) at s zero d h = ap (λ (a : ℕ). le_f64 a s) (omega arith)
doubles-at step (suc n) at s (suc i) d h =
    doubles-at step n (at + step) s i d (omega arith) ∙ ap (λ (a : ℕ). le_f64 a s) (omega (arith, mul-suc step i))

pub doubles_on : (step n at i : ℕ) (s : List ℕ) → i < n → doubles_at step (n - i) (at + step * i) s ≡ le_f64 (at + step * i) s ∷ doubles_at step (n - (i + 1)) (at + step * (i + 1)) s
unfolding doubles_at
doubles_on step n at i s h =
    let a : n - i ≡ suc (n - (i + 1)) = omega arith in
    let b : at + step * (i + 1) ≡ at + step * i + step = rw add-one (omega (arith, mul-suc step i)) in
    rw (a, b)

pub doubles_end : (step n at i : ℕ) (s : List ℕ) → n ≤ i → doubles_at step (n - i) at s ≡ []
unfolding doubles_at
doubles_end step n at i s h =
    let z : n - i ≡ 0 = omega arith in
    rw z

-- one turn of a loop that stores them, and behind the last of them
module _ (step : ℕ) (out : List Float) (n at i : ℕ) (s : List ℕ) where
  pub doubles_turn : i < n → sets (set out i (le_f64 (at + step * i) s)) (i + 1) (doubles_at step (n - (i + 1)) (at + step * (i + 1)) s) ≡ sets out i (doubles_at step (n - i) (at + step * i) s)
  doubles_turn h = rw (doubles_on step n at i s h, add-one)

  pub doubles_over : n ≤ i → sets out i (doubles_at step (n - i) at s) ≡ out
  doubles_over h = rw (doubles_end step n at i s h)

pub two_i32 : (a b : ℤ) → two_big (of_z w32 a) (of_z w32 b) ≡ i32_be a ++ i32_be b
unfolding two_big i32_be
two_i32 a b = refl

pub two-stored : (out l m : List ℕ) (a b : ℤ) → l ≡ sets out 0 (i32_be a) → m ≡ sets l 4 (i32_be b) → m ≡ sets out 0 (two_big (of_z w32 a) (of_z w32 b))
two-stored out l m a b e f = rw two_i32 (onto out l m (i32_be a) (i32_be b) 0 4 (simp length-i32_be) e f)

pub zero_bits : of_bits binary64 0 ≡ of_int binary64 (pos 0)
unfolding of_bits of_int
zero_bits = refl

-- ---- a field that holds a number's bytes has that number

pub big-back : (n : ℕ) → n < 2 ^ 32 → (at : ℕ) (s : List ℕ) → field 4 at s ≡ big n → be (field 4 at s) ≡ n
unfolding big
big-back n h at s e = ap be e ∙ be-be_bytes 4 n h

pub little-back : (n : ℕ) → n < 2 ^ 32 → (at : ℕ) (s : List ℕ) → field 4 at s ≡ little n → le (field 4 at s) ≡ n
unfolding little
little-back n h at s e = ap le e ∙ le_le_bytes 4 n h

pub be_i32-back : (z : ℤ) → SFits w32 z → (at : ℕ) (s : List ℕ) → field 4 at s ≡ i32_be z → be_i32 at s ≡ z
unfolding be_i32 i32_be
be_i32-back z f at s e = ap (to_z w32) (big-back (of_z w32 z) (of_z_fits w32 z f).fits at s e) ∙ to_z-of_z w32 z f

pub le_i32-back : (z : ℤ) → SFits w32 z → (at : ℕ) (s : List ℕ) → field 4 at s ≡ i32_le z → le_i32 at s ≡ z
unfolding le_i32 i32_le
le_i32-back z f at s e = ap (to_z w32) (little-back (of_z w32 z) (of_z_fits w32 z f).fits at s e) ∙ to_z-of_z w32 z f

pub le_f64-back : (x : Float) → T (fits binary64 x) → (at : ℕ) (s : List ℕ) → field 8 at s ≡ f64_le x → le_f64 at s ≡ x
unfolding le_f64 f64_le double
le_f64-back x f at s e =
    ap (λ (l : List ℕ). of_bits binary64 (le l)) e ∙ ap (of_bits binary64) (le_le_bytes 8 (to_bits binary64 x) (to_bits-lt binary64 x f)) ∙ of_bits-to_bits binary64 x f

-- ---- and a number's bytes are those of the field that it was read from: of a double, where a NaN there is the one that is written

module _ (at : ℕ) (s : List ℕ) (h : AllBytes s) where
  pub i32_be_of : at + 4 ≤ length s → i32_be (be_i32 at s) ≡ field 4 at s
  unfolding i32_be be_i32 big
  i32_be_of k = ap (be_bytes 4) (of_z-to_z w32 (be (field 4 at s)) (record { fits = be_field_lt 4 at s h k })) ∙ be_bytes-field 4 at s h k

  pub i32_le_of : at + 4 ≤ length s → i32_le (le_i32 at s) ≡ field 4 at s
  unfolding i32_le le_i32 little
  i32_le_of k = ap (le_bytes 4) (of_z-to_z w32 (le (field 4 at s)) (record { fits = le_field_lt 4 at s h k })) ∙ le_bytes_field 4 at s h k

  pub f64_le_of : at + 8 ≤ length s → PlainNan (le (field 8 at s)) → f64_le (le_f64 at s) ≡ field 8 at s
  unfolding f64_le le_f64 double
  f64_le_of k p = ap (le_bytes 8) (bits_back (le (field 8 at s)) (le_field_lt 8 at s h k) p) ∙ le_bytes_field 8 at s h k

  pub f64_le-only : at + 8 ≤ length s → f64_le (le_f64 at s) ≡ field 8 at s → PlainNan (le (field 8 at s))
  unfolding f64_le le_f64 double
  f64_le-only k e = back_plain (le (field 8 at s)) (sym (le_le_bytes 8 (to_bits binary64 (le_f64 at s)) (to_bits-lt binary64 (le_f64 at s) (of_bits-fits binary64 (le (field 8 at s))))) ∙ ap le e)
