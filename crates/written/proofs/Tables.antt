-- The shape of tables that agree: its doubles have 64 bits, and what a reader has to say of it is what was lent.
use mathlib.Core.Path.{◌≡◌, refl, sym, ap, ◌∙◌}
use mathlib.Core.Bool.{Bool, true, false, cond}
use mathlib.Core.List.{List, [], ◌∷◌, map, map-map}
use Prim.Native.Nat.{ℕ, ◌^◌, ◌<◌}
use native.Mathlib.Omega.{arith}
use lib.Dec.{T}
use lib.Ieee.{Float, binary64, fits}
use lib.Ieee.Bits.{of_bits-to_bits, to_bits-lt}
use lib.ListN.{length}
use Rattle.format.specs.Bytes.{Fit}
use Rattle.format.specs.Shapes.{Point}
use Rattle.format.specs.WellFormed.{coordinates}
use Rattle.layouts.specs.Tables.{bits, points_of, measure_of}
use Rattle.layouts.proofs.TableLaws.{xs_are, ys_are}
use Rattle.writer.specs.Adding.{value_of}
use Rattle.writer.proofs.ShapeLaws.{empty}
use Rattle.readback.specs.Held.{ValueHeld, MeasureHeld}
use Rattle.readback.specs.ReadBack.{value, value_or, range_of, xs_of, ys_of, values_of}
use Rattle.written.specs.Written.{AllDoubles, range_if, first_of}

-- ---- doubles

pub back : (x : Float) → T (fits binary64 x) → value (bits x) ≡ x
back x f = of_bits-to_bits binary64 x f

pub held : (x : Float) → T (fits binary64 x) → bits x < 2 ^ 64
held x f = to_bits-lt binary64 x f

pub all_back : (xs : List Float) → AllDoubles xs → map value (map bits xs) ≡ xs
all_back [] f = refl
all_back (x ∷ xs) f =
    let here = back x f.0 in
    let rest = all_back xs f.1 in
    λ i. here i ∷ rest i

pub all_held : (xs : List Float) → AllDoubles xs → Fit 8 (map bits xs)
all_held [] f = tt
all_held (x ∷ xs) f = (held x f.0, all_held xs f.1)

-- ---- points

pub pairs-held : (xs ys : List Float) → AllDoubles xs → AllDoubles ys → Fit 8 (coordinates (points_of xs ys))
pairs-held [] ys f g = tt
pairs-held (x ∷ xs) [] f g = tt
pairs-held (x ∷ xs) (y ∷ ys) f g = (held x f.0, (held y g.0, pairs-held xs ys f.1 g.1))

-- what each point has, as its value
module _ (xs ys : List Float) (e : length ys ≡ length xs) where
  pub x-back : AllDoubles xs → xs_of (points_of xs ys) ≡ xs
  x-back f = sym (map-map value (λ (p : Point). p.x) (points_of xs ys)) ∙ (ap (map value) (xs_are xs ys e) ∙ all_back xs f)

  pub y-back : AllDoubles ys → ys_of (points_of xs ys) ≡ ys
  y-back f = sym (map-map value (λ (p : Point). p.y) (points_of xs ys)) ∙ (ap (map value) (ys_are xs ys e) ∙ all_back ys f)

-- ---- z or m, where the flag gives it

module _ (low high : Float) (vs : List Float) where
  pub range_is : (flag : Bool) → T (fits binary64 low) → T (fits binary64 high) → range_of (measure_of flag low high vs) ≡ range_if flag low high
  range_is true f g =
      let l = back low f in
      let h = back high g in
      λ i. record { low = l i; high = h i }
  range_is false f g = refl

  pub measure_held : (flag : Bool) → T (fits binary64 low) → T (fits binary64 high) → AllDoubles vs → MeasureHeld (measure_of flag low high vs)
  measure_held true f g h = (held low f, (held high g, all_held vs h))
  measure_held false f g h = tt

  pub values_are : (n : ℕ) (flag : Bool) → length vs ≡ cond flag n 0 → AllDoubles vs → values_of (measure_of flag low high vs) ≡ vs
  values_are n true e f = all_back vs f
  values_are n false e f = sym (empty vs e)

-- ---- one point

pub first-double : (xs : List Float) → AllDoubles xs → length xs ≡ 1 → T (fits binary64 (first_of xs))
first-double [] f e = absurd (omega arith)
first-double (x ∷ xs) f e = f.0

pub points_one : (xs ys : List Float) → length xs ≡ 1 → length ys ≡ 1 → points_of xs ys ≡ record { x = bits (first_of xs); y = bits (first_of ys) } ∷ []
points_one [] ys e f = absurd (omega arith)
points_one (x ∷ xs) [] e f = absurd (omega arith)
points_one (x ∷ []) (y ∷ ys) e f = refl
points_one (x ∷ a ∷ xs) (y ∷ ys) e f = absurd (omega arith)

pub value-held : (flag : Bool) (vs : List Float) → AllDoubles vs → ValueHeld (value_of flag vs)
value-held true [] f = tt
value-held true (x ∷ vs) f = held x f.0
value-held false vs f = tt

pub value-is : (flag : Bool) (vs : List Float) → length vs ≡ cond flag 1 0 → AllDoubles vs → value_or (value_of flag vs) ≡ first_of vs
value-is true [] e f = absurd (omega arith)
value-is true (x ∷ vs) e f = back x f.0
value-is false [] e f = refl
value-is false (x ∷ vs) e f = absurd (omega arith)
