-- A shape whose doubles have 64 bits each, infinities and NaN among them. A well-formed shape is one: `well_held` in proofs/Held.antt.
use mathlib.Core.List.{List, [], ◌∷◌, flatten}
use Rattle.std.proofs.Math.Option.{Option, none, some}
use Rattle.std.specs.Prelude.{ℕ, ◌^◌, ◌<◌}
use Rattle.format.specs.Bytes.{Fit}
use Rattle.format.specs.Shapes.{Point, BoxXY, Measure, Shape, null, point, multipoint, parted}
use Rattle.format.specs.WellFormed.{coordinates}

abbrev pub ValueHeld : Option ℕ → Type 0
ValueHeld none = Unit {0}
ValueHeld (some d) = d < 2 ^ 64

abbrev pub MeasureHeld : Option Measure → Type 0
MeasureHeld none = Unit {0}
MeasureHeld (some r) = Fit 8 (r.low ∷ r.high ∷ r.values)

-- the doubles of several points
pub record DoublesHeld (b : BoxXY) (ps : List Point) (z m : Option Measure) : Type 0 where
  pub box_held : Fit 8 (b.xmin ∷ b.ymin ∷ b.xmax ∷ b.ymax ∷ [])
  pub points_held : Fit 8 (coordinates ps)
  pub z_held : MeasureHeld z
  pub m_held : MeasureHeld m

pub record PointHeld (xy : Point) (z m : Option ℕ) : Type 0 where
  pub x_held : xy.x < 2 ^ 64
  pub y_held : xy.y < 2 ^ 64
  pub z_held : ValueHeld z
  pub m_held : ValueHeld m

abbrev pub Held : Shape → Type 0
Held null = Unit {0}
Held (point xy z m) = PointHeld xy z m
Held (multipoint s) = DoublesHeld s.box s.points s.z s.m
Held (parted s) = DoublesHeld s.box (flatten s.parts) s.z s.m
