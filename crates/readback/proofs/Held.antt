-- The doubles of a shape: a finite one has 64 bits, so a well-formed shape is held.
use mathlib.Core.List.{List, ◌∷◌, flatten}
use mathlib.Core.Option.{Option, none, some}
use Prim.Native.Nat.{ℕ}
use Rattle.format.specs.declared.kinds.Kind.{Kind}
use Rattle.format.specs.Shapes.{Point, BoxXY, Measure, Shape, null, point, multipoint, parted}
use Rattle.format.specs.WellFormed.{coordinates, ValueFinite, MeasureFinite, DoublesFinite, WellFormed}
use Rattle.format.proofs.FiniteLaws.{finite_fit}
use Rattle.format.proofs.Laid.{box_doubles}
use Rattle.readback.specs.Held.{ValueHeld, MeasureHeld, DoublesHeld, Held}

value-held : (o : Option ℕ) → ValueFinite o → ValueHeld o
value-held none f = tt
value-held (some d) f = f.bits

measure_held : (o : Option Measure) → MeasureFinite o → MeasureHeld o
measure_held none f = tt
measure_held (some r) f = finite_fit (r.low ∷ r.high ∷ r.values) f

doubles-held : (b : BoxXY) (ps : List Point) (z m : Option Measure) → DoublesFinite b ps z m → DoublesHeld b ps z m
doubles-held b ps z m v =
    record {
      box_held = finite_fit (box_doubles b) v.box_finite;
      points_held = finite_fit (coordinates ps) v.points_finite;
      z_held = measure_held z v.z_finite;
      m_held = measure_held m v.m_finite;
    }

pub well_held : (k : Kind) (s : Shape) → WellFormed k s → Held s
well_held k null v = tt
well_held k (point xy z m) v =
    record { x_held = v.x_finite.bits; y_held = v.y_finite.bits; z_held = value-held z v.z_finite; m_held = value-held m v.m_finite }
well_held k (multipoint s) v = doubles-held s.box s.points s.z s.m v.doubles
well_held k (parted s) v = doubles-held s.box (flatten s.parts) s.z s.m v.doubles
