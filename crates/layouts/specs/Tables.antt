-- The shape of several points that lent tables describe: part counts, and all x, all y, z and m as lists of doubles; the box and the ranges as
-- given.
use Rattle.std.specs.Prelude.{Bool, true, false, cond, List, [], ◌∷◌, map, ℕ, Float, length, take, drop}
use Rattle.std.proofs.Math.Option.{Option, none, some}
use Rattle.std.specs.Float.{binary64}
use Rattle.std.specs.Float.Ieee.{to_bits}
use Rattle.format.specs.Shapes.{Point, BoxXY, Measure, Multipoint, Parts, Shape, multipoint, parted, sum}
use Rattle.header.specs.declared.bbox.BBoxZ.{BBoxZ}

abbrev pub bits : Float → ℕ
bits x = to_bits binary64 x

-- a point for each x and y
abbrev pub points_of : List Float → List Float → List Point
points_of [] ys = []
points_of (x ∷ xs) [] = []
points_of (x ∷ xs) (y ∷ ys) = record { x = bits x; y = bits y } ∷ points_of xs ys

-- so many points for each part, in turn
unfoldable pub split_by : List ℕ → List Point → List (List Point)
split_by [] ps = []
split_by (n ∷ ns) ps = take n ps ∷ split_by ns (drop n ps)

-- z or m, where the layout has it: the range, and the values
abbrev pub measure_of : Bool → Float → Float → List Float → Option Measure
measure_of false low high values = none
measure_of true low high values = some (record { low = bits low; high = bits high; values = map bits values })

abbrev pub box_of : BBoxZ → BoxXY
box_of b = record { xmin = bits b.xmin; ymin = bits b.ymin; xmax = bits b.xmax; ymax = bits b.ymax }

-- the shape with parts, in a layout with z or without, and with m or without
unfoldable pub parts_of : Bool → Bool → BBoxZ → List ℕ → List Float → List Float → List Float → List Float → Parts
parts_of z m b counts xs ys zs ms =
    record {
      box = box_of b;
      parts = split_by counts (points_of xs ys);
      z = measure_of z b.zmin b.zmax zs;
      m = measure_of m b.mmin b.mmax ms;
    }

-- the multipoint
unfoldable pub multipoint_of : Bool → Bool → BBoxZ → List Float → List Float → List Float → List Float → Multipoint
multipoint_of z m b xs ys zs ms =
    record {
      box = box_of b;
      points = points_of xs ys;
      z = measure_of z b.zmin b.zmax zs;
      m = measure_of m b.mmin b.mmax ms;
    }

-- with parts, or a multipoint
abbrev pub several_of : Bool → Bool → Bool → BBoxZ → List ℕ → List Float → List Float → List Float → List Float → Shape
several_of true z m b counts xs ys zs ms = parted (parts_of z m b counts xs ys zs ms)
several_of false z m b counts xs ys zs ms = multipoint (multipoint_of z m b xs ys zs ms)

-- how many points it has: n is the sum of the part counts, or as many as there are x
abbrev pub points_lent : Bool → List ℕ → List Float → ℕ
points_lent parts counts xs = cond parts (sum counts) (length xs)
