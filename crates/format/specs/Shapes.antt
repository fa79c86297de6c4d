-- A shape as a value. Doubles are their 64 bits. Parts are lists of points: that they cover the points of a shape, with none missing or
-- shared, is true by what a shape is, and where each part starts is for the encoding to work out.
use Rattle.std.specs.Prelude.{◌≡◌, Bool, true, false, ℕ, ◌+◌, length}
use mathlib.Core.List.{List, [], ◌∷◌, flatten}
use Rattle.std.proofs.Math.Option.{Option, none, some}
use Rattle.format.specs.declared.kinds.Kind.{Kind}
use Rattle.format.specs.Kinds.{null_kind}
use Rattle.format.specs.Lengths.{nothing, one_point, many_points, form_of}
use Rattle.format.specs.Lengths

pub record Point : Type 0 where
  pub x : ℕ
  pub y : ℕ

pub record BoxXY : Type 0 where
  pub xmin : ℕ
  pub ymin : ℕ
  pub xmax : ℕ
  pub ymax : ℕ

-- z or m of a multipoint or of a shape with parts: a range, and a value for each point
pub record Measure : Type 0 where
  pub low : ℕ
  pub high : ℕ
  pub values : List ℕ

pub record Multipoint : Type 0 where
  pub box : BoxXY
  pub points : List Point
  pub z : Option Measure
  pub m : Option Measure

pub record Parts : Type 0 where
  pub box : BoxXY
  pub parts : List (List Point)
  pub z : Option Measure
  pub m : Option Measure

pub data Shape : Type 0 where
  null : Shape
  point : Point → Option ℕ → Option ℕ → Shape
  multipoint : Multipoint → Shape
  parted : Parts → Shape

-- ---- counts: a point counts no part and one point, a multipoint no part, Null neither

abbrev pub sum : List ℕ → ℕ
sum [] = 0
sum (n ∷ ns) = n + sum ns

unfoldable pub parts_in : Shape → ℕ
parts_in null = 0
parts_in (point xy z m) = 0
parts_in (multipoint s) = 0
parts_in (parted s) = length s.parts

unfoldable pub points_in : Shape → ℕ
points_in null = 0
points_in (point xy z m) = 1
points_in (multipoint s) = length s.points
points_in (parted s) = length (flatten s.parts)

-- ---- which shapes are of a kind

abbrev pub there : {A : Type 0} → Option A → Bool
there none = false
there (some a) = true

-- a measure has a value for each of n points
abbrev pub Covers : ℕ → Option Measure → Type 0
Covers n none = Unit {0}
Covers n (some r) = length r.values ≡ n

-- what the flag does not give is not there
abbrev pub OnlyIf : Bool → {A : Type 0} → Option A → Type 0
OnlyIf true o = Unit {0}
OnlyIf false o = there o ≡ false

pub record PointOf (k : Kind) (z m : Option ℕ) : Type 0 where
  pub form : form_of k ≡ some one_point
  pub has_z : there z ≡ k.z
  pub has-m : there m ≡ k.m

-- z and m of a shape with n points: it has what its kind has, and may lack m
pub record MeasuresOf (k : Kind) (n : ℕ) (z m : Option Measure) : Type 0 where
  pub has_z : there z ≡ k.z
  pub may_have_m : OnlyIf k.m m
  pub covers_z : Covers n z
  pub covers_m : Covers n m

pub record MultipointOf (k : Kind) (s : Multipoint) : Type 0 where
  pub form : form_of k ≡ some many_points
  pub measures : MeasuresOf k (length s.points) s.z s.m

pub record PartsOf (k : Kind) (s : Parts) : Type 0 where
  pub form : form_of k ≡ some Lengths.parts
  pub measures : MeasuresOf k (length (flatten s.parts)) s.z s.m

-- the shape has what its kind has, and a multipoint and a shape with parts may lack m
abbrev pub OfKind : Kind → Shape → Type 0
OfKind k null = form_of k ≡ some nothing
OfKind k (point xy z m) = PointOf k z m
OfKind k (multipoint s) = MultipointOf k s
OfKind k (parted s) = PartsOf k s

-- ---- which shapes a file of a kind holds: Null may stand among the others

-- the kind of a shape's own record
abbrev pub own_kind : Kind → Shape → Kind
own_kind k null = null_kind
own_kind k (point xy z m) = k
own_kind k (multipoint s) = k
own_kind k (parted s) = k

-- the shape is of the file's kind, or Null
abbrev pub Among : Kind → Shape → Type 0
Among k s = OfKind (own_kind k s) s
