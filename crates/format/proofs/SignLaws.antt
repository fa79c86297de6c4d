-- Signed numbers and the bits that hold them: what code tests and casts is the bits, and what a definition speaks of is the number.
use mathlib.Core.Path.{◌≡◌, refl, sym, ap, ◌∙◌, subst}
use mathlib.Core.Bool.{Bool, true, false}
use Prim.Native.Nat.{◌^◌, ◌≤◌, ◌<◌}
use native.Mathlib.Nat.{not-suc-le-zero}
use native.Mathlib.Omega.{arith}
use lib.Dec.{T}
use lib.IntN.{ℤ, pos, negsuc, nat_abs}
use lib.Signed.{lt_z, mag, non_neg}
use mir.Syntax.{Width, w32}
use mir.Val.{Fits, SFits, hbits, to_z, of_z}
use mir.ValLaws.{to_z-of_z, pow-bits}
use borrow.Author.Tests.{ltb-true}

-- ---- where the bits of a number lie, by its sign, at every width

neg : (w : Width) (z : ℤ) → SFits w z → lt_z z (pos 0) ≡ true → 2 ^ hbits w ≤ of_z w z
neg w (pos n) f e = let h : n < 0 = ltb-true n 0 e in omega arith
neg w (negsuc n) f e = omega (arith, pow-bits w)

-- a test `z < 0` in code is of what the machine reads back from the bits: here it is of z
pub sign_test : (w : Width) (z : ℤ) → SFits w z → (b : Bool) → lt_z (to_z w (of_z w z)) (pos 0) ≡ b → lt_z z (pos 0) ≡ b
sign_test w z f b e = ap (λ (x : ℤ). lt_z x (pos 0)) (sym (to_z-of_z w z f)) ∙ e

-- A signed local holds bits, so what comes out of one is `to_z w (of_z w z)`, which is z. Of a call's result `c.f.ok` is the bound.
pub back : (w : Width) (z : ℤ) → mag z < 2 ^ hbits w → to_z w (of_z w z) ≡ z
back w z h = to_z-of_z w z (record { sfits = h })

-- ---- what the cast of a number that is not negative asks, `z as u32`

non_casts : (z : ℤ) → SFits w32 z → lt_z z (pos 0) ≡ false → T (non_neg z) × Fits w32 (nat_abs z)
non_casts (pos n) f e = (tt, omega arith)
non_casts (negsuc n) f e = absurd (subst T e tt)

pub casts : (z : ℤ) → SFits w32 z → lt_z (to_z w32 (of_z w32 z)) (pos 0) ≡ false → T (non_neg (to_z w32 (of_z w32 z))) × Fits w32 (nat_abs (to_z w32 (of_z w32 z)))
casts z f e = rw (to_z-of_z w32 z f) (non_casts z f (sign_test w32 z f false e))

-- ---- a definition's test, from the code's

pub non_neg_yes : (z : ℤ) → lt_z z (pos 0) ≡ false → non_neg z ≡ true
non_neg_yes (pos n) e = refl
non_neg_yes (negsuc n) e = sym e

pub non_neg_no : (z : ℤ) → lt_z z (pos 0) ≡ true → non_neg z ≡ false
non_neg_no (pos n) e = absurd (not-suc-le-zero (ltb-true n 0 e))
non_neg_no (negsuc n) e = refl
