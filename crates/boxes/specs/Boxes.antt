-- The header's box: what a record gives to it, and how it grows.
use Rattle.std.specs.Prelude.{Bool, cond, ◌&&◌, List, Float, pos, get_or}
use Rattle.std.specs.Float.{binary64}
use Rattle.std.specs.Float.Ieee.{of_bits, of_int, lt, eq}
use Rattle.format.specs.declared.kinds.Kind.{Kind}
use Rattle.header.specs.declared.bbox.BBoxZ.{BBoxZ}

-- `f64_min` and `f64_max` of the Rust
abbrev pub least : Float → Float → Float
least a b = cond (lt a b) a b

abbrev pub greatest : Float → Float → Float
greatest a b = cond (lt b a) a b

abbrev pub zero_double : Float
zero_double = of_int binary64 (pos 0)

-- the largest finite double, and the smallest
abbrev pub largest : Float
largest = of_bits binary64 0x7fef_ffff_ffff_ffff

abbrev pub smallest : Float
smallest = of_bits binary64 0xffef_ffff_ffff_ffff

abbrev pub zero_box : BBoxZ
zero_box = record { xmin = zero_double; ymin = zero_double; xmax = zero_double; ymax = zero_double; zmin = zero_double; zmax = zero_double; mmin = zero_double; mmax = zero_double }

-- what the first record finds: each min the largest finite double and each max the smallest
abbrev pub start_box : BBoxZ
start_box =
    record {
      xmin = largest;
      ymin = largest;
      xmax = smallest;
      ymax = smallest;
      zmin = largest;
      zmax = smallest;
      mmin = largest;
      mmax = smallest;
    }

-- the record's own value first and the held one second
abbrev pub grown : BBoxZ → BBoxZ → BBoxZ
grown own held =
    record {
      xmin = least own.xmin held.xmin;
      ymin = least own.ymin held.ymin;
      xmax = greatest own.xmax held.xmax;
      ymax = greatest own.ymax held.ymax;
      zmin = least own.zmin held.zmin;
      zmax = greatest own.zmax held.zmax;
      mmin = least own.mmin held.mmin;
      mmax = greatest own.mmax held.mmax;
    }

-- the box with its z and its m where they are set, else 0
abbrev pub with_ranges : BBoxZ → Bool → Bool → BBoxZ
with_ranges b z m =
    record {
      xmin = b.xmin;
      ymin = b.ymin;
      xmax = b.xmax;
      ymax = b.ymax;
      zmin = cond z b.zmin zero_double;
      zmax = cond z b.zmax zero_double;
      mmin = cond m b.mmin zero_double;
      mmax = cond m b.mmax zero_double;
    }

-- a kind without z or m gives 0 for it
abbrev pub flat : Kind → BBoxZ → BBoxZ
flat k b =
    record {
      xmin = b.xmin;
      ymin = b.ymin;
      xmax = b.xmax;
      ymax = b.ymax;
      zmin = cond k.z b.zmin zero_double;
      zmax = cond k.z b.zmax zero_double;
      mmin = cond k.m b.mmin zero_double;
      mmax = cond k.m b.mmax zero_double;
    }

-- a point's own values as a box
abbrev pub point_box : List Float → List Float → List Float → List Float → BBoxZ
point_box xs ys zs ms =
    record {
      xmin = get_or xs 0 zero_double;
      ymin = get_or ys 0 zero_double;
      xmax = get_or xs 0 zero_double;
      ymax = get_or ys 0 zero_double;
      zmin = get_or zs 0 zero_double;
      zmax = get_or zs 0 zero_double;
      mmin = get_or ms 0 zero_double;
      mmax = get_or ms 0 zero_double;
    }

-- a range that is still at its start values
abbrev pub untouched : Float → Float → Bool
untouched low high = eq high smallest && eq low largest

-- finishing puts 0 for a z or m range still at its start values
abbrev pub settled : BBoxZ → BBoxZ
settled b =
    record {
      xmin = b.xmin;
      ymin = b.ymin;
      xmax = b.xmax;
      ymax = b.ymax;
      zmin = cond (untouched b.zmin b.zmax) zero_double b.zmin;
      zmax = cond (untouched b.zmin b.zmax) zero_double b.zmax;
      mmin = cond (untouched b.mmin b.mmax) zero_double b.mmin;
      mmax = cond (untouched b.mmin b.mmax) zero_double b.mmax;
    }
