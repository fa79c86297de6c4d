-- The three numbers of a shapefile: i32 with the high byte first, i32 with the low byte first, and doubles with the low byte first.
use Rattle.std.specs.Prelude.{◌≡◌, Bool, true, false, ℕ, zero, suc, ◌+◌, ℤ, Float}
use mathlib.Core.List.{List, [], ◌∷◌, map, flatten}
use Rattle.std.specs.Float.{nan, inf, fin, binary64}
use Rattle.std.specs.Float.Ieee.{of_bits, to_bits}
use Rattle.std.specs.Int.{w32}
use Rattle.std.proofs.Common.{to_z, of_z}
use Rattle.format.specs.Bytes.{le, be, le_bytes, be_bytes, field}

-- ---- by their bits

unfoldable pub big : ℕ → List ℕ
big n = be_bytes 4 n

unfoldable pub little : ℕ → List ℕ
little n = le_bytes 4 n

unfoldable pub double : ℕ → List ℕ
double d = le_bytes 8 d

-- ---- by their values: the number at a place of the bytes

unfoldable pub be_i32 : ℕ → List ℕ → ℤ
be_i32 at s = to_z w32 (be (field 4 at s))

unfoldable pub le_i32 : ℕ → List ℕ → ℤ
le_i32 at s = to_z w32 (le (field 4 at s))

unfoldable pub le_f64 : ℕ → List ℕ → Float
le_f64 at s = of_bits binary64 (le (field 8 at s))

-- n doubles, the first of them at a place and each so many bytes behind the one before it
unfoldable pub doubles_at : ℕ → ℕ → ℕ → List ℕ → List Float
doubles_at step zero at s = []
doubles_at step (suc n) at s = le_f64 at s ∷ doubles_at step n (at + step) s

-- ---- and the bytes of a number; a NaN, of which the logic has one, has the bits 7FF8000000000000

unfoldable pub i32_be : ℤ → List ℕ
i32_be z = big (of_z w32 z)

unfoldable pub i32_le : ℤ → List ℕ
i32_le z = little (of_z w32 z)

unfoldable pub f64_le : Float → List ℕ
f64_le x = double (to_bits binary64 x)

unfoldable pub f64s_le : List Float → List ℕ
f64s_le xs = flatten (map f64_le xs)

-- a NaN among the bits is the one that is written
abbrev pub PlainNan : ℕ → Type 0
PlainNan d = of_bits binary64 d ≡ nan → d ≡ 0x7ff8_0000_0000_0000

-- ---- finite doubles

abbrev pub is_finite : Float → Bool
is_finite nan = false
is_finite (inf s) = false
is_finite (fin s m e) = true

-- the double with these bits is no NaN and no infinity
unfoldable pub finite : ℕ → Bool
finite d = is_finite (of_bits binary64 d)
