-- A shape is well-formed when it meets P14 to P16 of document 01, said here of the value.
use Rattle.std.specs.Prelude.{◌≡◌, Bool, true, false, cond, ◌&&◌, ◌||◌, ℕ, ◌^◌, ◌≤◌, ◌<◌, eqb, length}
use mathlib.Core.List.{List, [], ◌∷◌, flatten}
use Rattle.std.proofs.Math.Option.{Option, none, some}
use Rattle.std.specs.Float.{binary64}
use Rattle.std.specs.Float.Ieee.{of_bits, eq}
use Rattle.format.specs.declared.kinds.Kind.{Kind}
use Rattle.format.specs.Encoding.{Box, box_doubles}
use Rattle.format.specs.Numbers.{finite}
use Rattle.format.specs.Shapes.{Point, BoxXY, Measure, Multipoint, Parts, Shape, null, point, multipoint, parted}

-- the parts of 5, 15 and 25 are rings
unfoldable pub has_rings : Kind → Bool
has_rings k = eqb k.code 5 || eqb k.code 15 || eqb k.code 25

-- P14: each polyline part has at least 2 points, each ring at least 4
unfoldable pub least_points : Kind → ℕ
least_points k = cond (has_rings k) 4 2

-- P15: a ring's first point equals its last in x and y as IEEE numbers
abbrev pub same_number : ℕ → ℕ → Bool
same_number a b = eq (of_bits binary64 a) (of_bits binary64 b)

abbrev pub same_place : Point → Point → Bool
same_place p q = same_number p.x q.x && same_number p.y q.y

abbrev pub last_from : Point → List Point → Point
last_from p [] = p
last_from p (q ∷ ps) = last_from q ps

unfoldable pub closed_ring : List Point → Bool
closed_ring [] = false
closed_ring (p ∷ ps) = same_place p (last_from p ps)

-- P16: 64 bits of a finite double
pub record Finite (d : ℕ) : Type 0 where
  pub bits : d < 2 ^ 64
  pub finite : finite d ≡ true

abbrev pub AllFinite : List ℕ → Type 0
AllFinite [] = Unit {0}
AllFinite (d ∷ ds) = Finite d × AllFinite ds

abbrev pub coordinates : List Point → List ℕ
coordinates [] = []
coordinates (p ∷ ps) = p.x ∷ p.y ∷ coordinates ps

abbrev pub ValueFinite : Option ℕ → Type 0
ValueFinite none = Unit {0}
ValueFinite (some d) = Finite d

abbrev pub MeasureFinite : Option Measure → Type 0
MeasureFinite none = Unit {0}
MeasureFinite (some r) = AllFinite (r.low ∷ r.high ∷ r.values)

-- the doubles of a multipoint or of a shape with parts: its box, its points, z and m
pub record DoublesFinite (b : BoxXY) (ps : List Point) (z m : Option Measure) : Type 0 where
  pub box_finite : AllFinite (b.xmin ∷ b.ymin ∷ b.xmax ∷ b.ymax ∷ [])
  pub points_finite : AllFinite (coordinates ps)
  pub z_finite : MeasureFinite z
  pub m_finite : MeasureFinite m

-- P14: a multipoint has at least 1 point
pub record MultipointWellFormed (s : Multipoint) : Type 0 where
  pub some_point : 1 ≤ length s.points
  pub doubles : DoublesFinite s.box s.points s.z s.m

-- every part of a shape with parts
abbrev pub PartsFine : Kind → List (List Point) → Type 0
PartsFine k [] = Unit {0}
PartsFine k (part ∷ parts) = (least_points k ≤ length part) × (has_rings k ≡ true → closed_ring part ≡ true) × PartsFine k parts

pub record PartsWellFormed (k : Kind) (s : Parts) : Type 0 where
  pub some_part : 1 ≤ length s.parts
  pub each_part : PartsFine k s.parts
  pub doubles : DoublesFinite s.box (flatten s.parts) s.z s.m

pub record PointWellFormed (xy : Point) (z m : Option ℕ) : Type 0 where
  pub x_finite : Finite xy.x
  pub y_finite : Finite xy.y
  pub z_finite : ValueFinite z
  pub m_finite : ValueFinite m

abbrev pub WellFormed : Kind → Shape → Type 0
WellFormed k null = Unit {0}
WellFormed k (point xy z m) = PointWellFormed xy z m
WellFormed k (multipoint s) = MultipointWellFormed s
WellFormed k (parted s) = PartsWellFormed k s

-- P6: the header's box is finite
abbrev pub BoxFinite : Box → Type 0
BoxFinite box = AllFinite (box_doubles box)
