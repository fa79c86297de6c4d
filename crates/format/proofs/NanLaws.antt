-- Which doubles are NaN, by the tests that code can make, and which bits come back when they are read and written again.
use mathlib.Core.Path.{◌≡◌, refl, sym, ap, ◌∙◌, subst}
use mathlib.Core.Bool.{Bool, true, false, not}
use Prim.Native.Nat.{ℕ, ◌*◌, ◌%◌, ◌^◌, ◌≤◌, ◌<◌}
use lib.Dec.{T}
use lib.Ieee.{Float, nan, inf, fin, Format, ones, hid, top, binary64, fits, is_nan, nan_bits, of_bits, to_bits}
use lib.Ieee.Bits.{nan_bits_is, nan_bits_above, of_bits-to_bits, to_bits-of_bits}
use borrow.Author.Tests.{lt-ltb, le-ltb}
use Rattle.format.specs.Numbers.{PlainNan}

pub is-nan : (x : Float) → is_nan x ≡ true → x ≡ nan
unfolding is_nan
is-nan nan e = refl
is-nan (inf s) e = absurd (subst T (sym e) tt)
is-nan (fin s m e) h = absurd (subst T (sym h) tt)

-- a pattern above an infinity's, the sign dropped, is a NaN's
pub nan_pattern : (f : Format) (n : ℕ) → ones f * hid f < n % top f → of_bits f n ≡ nan
nan_pattern f n h = is-nan (of_bits f n) (sym (nan_bits_is f n) ∙ nan_bits_above f n ∙ lt-ltb _ _ h)

-- and no other is
pub no_nan_pattern : (f : Format) (n : ℕ) → n % top f ≤ ones f * hid f → T (not (nan_bits f n))
no_nan_pattern f n h = subst (λ (b : Bool). T (not b)) (sym (nan_bits_above f n ∙ le-ltb _ _ h)) tt

pub nan-bits : to_bits binary64 nan ≡ 0x7ff8_0000_0000_0000
unfolding to_bits
nan-bits = refl

-- ---- bits that are read and written again

pub bits_back : (d : ℕ) → d < 2 ^ 64 → PlainNan d → to_bits binary64 (of_bits binary64 d) ≡ d
bits_back d h p = by_nan (is_nan (of_bits binary64 d)) refl
  where
    by_nan : (b : Bool) → is_nan (of_bits binary64 d) ≡ b → to_bits binary64 (of_bits binary64 d) ≡ d
    by_nan true e =
        let n : of_bits binary64 d ≡ nan = is-nan (of_bits binary64 d) e in
        ap (to_bits binary64) n ∙ (nan-bits ∙ sym (p n))
    by_nan false e = to_bits-of_bits binary64 d h (subst (λ (b : Bool). T (not b)) (sym e) tt)

pub back_plain : (d : ℕ) → to_bits binary64 (of_bits binary64 d) ≡ d → PlainNan d
back_plain d e n = sym e ∙ (ap (to_bits binary64) n ∙ nan-bits)

-- a double is that of its bits
pub double-back : (x : Float) (d : ℕ) → fits binary64 x ≡ true → d ≡ to_bits binary64 x → of_bits binary64 d ≡ x
double-back x d h e = ap (of_bits binary64) e ∙ of_bits-to_bits binary64 x (subst T (sym h) tt)
