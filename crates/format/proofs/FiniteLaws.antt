-- Doubles that are finite: by the test that code can make on the bits, one whose exponent's field is not all ones; and lists of them.
use mathlib.Core.Path.{◌≡◌, refl}
use mathlib.Core.Bool.{Bool, true, false, cond, not}
use mathlib.Core.List.{List, [], ◌∷◌, ◌++◌}
use mathlib.Core.Option.{Option, none, some}
use Prim.Native.Nat.{ℕ, zero, suc, ◌+◌, ◌/◌, ◌%◌, ◌^◌}
use lib.Dec.{eqb, leb}
use lib.ListN.{length}
use lib.Ieee.{Float, nan, inf, binary64, prec, low, odd, hid, top, of_fields, of_bits}
use Rattle.format.specs.Numbers.{is_finite, finite}
use Rattle.format.specs.Bytes.{Fit}
use Rattle.format.specs.Shapes.{Point, BoxXY, Measure}
use Rattle.format.specs.WellFormed.{AllFinite, ValueFinite, MeasureFinite, coordinates, DoublesFinite}
use Rattle.format.proofs.Doubles.{value, measured, write_if}
use Rattle.format.proofs.Laid.{box_doubles, points_doubles}

odd_finite : (d : ℕ) (s : Bool) (q k l : ℕ) → is_finite (odd d s q k l) ≡ true
unfolding odd
odd_finite d s zero k l = refl
odd_finite d s (suc q) k l = refl

by_tests : (a b s : Bool) (v : Float) → is_finite v ≡ true → is_finite (cond a (cond b (inf s) nan) v) ≡ not a
by_tests true true s v h = refl
by_tests true false s v h = refl
by_tests false b s v h = h

fields_finite : (s : Bool) (x t : ℕ) → is_finite (of_fields binary64 s x t) ≡ not (eqb x 2047)
unfolding of_fields
fields_finite s zero t = odd_finite (prec binary64) s t 0 (low binary64)
fields_finite s (suc x) t =
    by_tests (eqb (suc x) 2047) (eqb t 0) s _ (odd_finite (prec binary64) s (hid binary64 + t) x (low binary64))

pub finite-bits : (d : ℕ) → finite d ≡ not (eqb (d % 2 ^ 63 / 2 ^ 52) 2047)
unfolding finite of_bits
finite-bits d = fields_finite (leb (top binary64) d) (d % 2 ^ 63 / 2 ^ 52) (d % 2 ^ 52)

-- ---- lists of them, and what they make up

pub finite_fit : (ds : List ℕ) → AllFinite ds → Fit 8 ds
finite_fit [] f = tt
finite_fit (d ∷ ds) f = (f.0.bits, finite_fit ds f.1)

pub finite-append : (a b : List ℕ) → AllFinite a → AllFinite b → AllFinite (a ++ b)
finite-append [] b f g = g
finite-append (d ∷ a) b f g = (f.0, finite-append a b f.1 g)

pub finite-front : (a b : List ℕ) → AllFinite (a ++ b) → AllFinite a
finite-front [] b f = tt
finite-front (d ∷ a) b f = (f.0, finite-front a b f.1)

pub finite-back : (a b : List ℕ) → AllFinite (a ++ b) → AllFinite b
finite-back [] b f = f
finite-back (d ∷ a) b f = finite-back a b f.1

pub value-finite : (o : Option ℕ) → AllFinite (write_if value o) → ValueFinite o
value-finite none f = tt
value-finite (some d) f = f.0

pub finite-value : (o : Option ℕ) → ValueFinite o → AllFinite (write_if value o)
finite-value none f = tt
finite-value (some d) f = (f, tt)

pub measure_finite : (n : ℕ) (o : Option Measure) → AllFinite (write_if (measured n) o) → MeasureFinite o
measure_finite n none f = tt
measure_finite n (some r) f = f

pub finite_measure : (n : ℕ) (o : Option Measure) → MeasureFinite o → AllFinite (write_if (measured n) o)
finite_measure n none f = tt
finite_measure n (some r) f = f

-- the doubles of several points: x and y, z and m
module _ (b : BoxXY) (ps : List Point) (z m : Option Measure) where
  abbrev zs : List ℕ
  zs = write_if (measured (length ps)) z

  abbrev ms : List ℕ
  ms = write_if (measured (length ps)) m

  pub finite-points : DoublesFinite b ps z m → AllFinite (points_doubles ps z m)
  unfolding points_doubles
  finite-points v =
      finite-append (coordinates ps) (zs ++ ms) v.points_finite
      (finite-append zs ms (finite_measure (length ps) z v.z_finite) (finite_measure (length ps) m v.m_finite))

  pub points_finite : AllFinite (box_doubles b) → AllFinite (points_doubles ps z m) → DoublesFinite b ps z m
  unfolding points_doubles
  points_finite h f =
      let zm = finite-back (coordinates ps) (zs ++ ms) f in
      record {
        box_finite = h;
        points_finite = finite-front (coordinates ps) (zs ++ ms) f;
        z_finite = measure_finite (length ps) z (finite-front zs ms zm);
        m_finite = measure_finite (length ps) m (finite-back zs ms zm);
      }
