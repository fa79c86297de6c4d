-- The header's box as a value of eight doubles, and the paper's box of their bits.
use Rattle.std.specs.Prelude.{◌≡◌, List, [], ◌∷◌, ℕ, ◌+◌, ◌*◌, ◌-◌, ◌/◌, ◌%◌, ◌≤◌, ◌<◌, length, Float, Result, Ok, Err}
use Rattle.std.specs.Float.{binary64}
use Rattle.std.specs.Float.Ieee.{to_bits}
use Rattle.format.specs.declared.shapes.Short.{Short}
use Rattle.format.specs.Encoding.{Box}
use Rattle.format.specs.Numbers.{le_f64}
use Rattle.header.specs.declared.bbox.BBoxZ.{BBoxZ}

-- the eight doubles in file order
abbrev pub box_list : BBoxZ → List Float
box_list b = b.xmin ∷ b.ymin ∷ b.xmax ∷ b.ymax ∷ b.zmin ∷ b.zmax ∷ b.mmin ∷ b.mmax ∷ []

-- the box that stands at a place
abbrev pub box_at : ℕ → List ℕ → BBoxZ
box_at at s =
    record {
      xmin = le_f64 at s;
      ymin = le_f64 (at + 8) s;
      xmax = le_f64 (at + 16) s;
      ymax = le_f64 (at + 24) s;
      zmin = le_f64 (at + 32) s;
      zmax = le_f64 (at + 40) s;
      mmin = le_f64 (at + 48) s;
      mmax = le_f64 (at + 56) s;
    }

-- the box that stands at a place holds these, where it is whole; else the double that the bytes end inside is named, by its place and by how many of
-- its bytes are present
abbrev pub ReadsBox : ℕ → List ℕ → Result BBoxZ Short → Type 0
ReadsBox at s (Ok b) = (at + 64 ≤ length s) × (b ≡ box_at at s)
ReadsBox at s (Err e) = (length s < at + 64) × (e ≡ record { at = at + (length s - at) / 8 * 8; present = (length s - at) % 8 })

-- its doubles by their bits
abbrev pub box_bits : BBoxZ → Box
box_bits b =
    record {
      xmin = to_bits binary64 b.xmin;
      ymin = to_bits binary64 b.ymin;
      xmax = to_bits binary64 b.xmax;
      ymax = to_bits binary64 b.ymax;
      zmin = to_bits binary64 b.zmin;
      zmax = to_bits binary64 b.zmax;
      mmin = to_bits binary64 b.mmin;
      mmax = to_bits binary64 b.mmax;
    }
