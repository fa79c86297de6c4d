-- Where the fields of a multipoint stand: its box, its number of points and its doubles, one behind the other from the place of the first byte.
use mathlib.Core.List.{List, ◌++◌}
use Prim.Native.Nat.{ℕ, ◌+◌}
use lib.ListN.{length}
use Rattle.format.specs.Bytes.{le_bytes}
use Rattle.format.specs.Encoding.{shape_bytes}
use Rattle.format.specs.Shapes.{Multipoint, multipoint}
use Rattle.format.proofs.ByteLaws.{length_le_bytes}
use Rattle.format.proofs.Laid.{box_doubles, multipoint_doubles, multipoint_laid}
use Rattle.format.proofs.Places.{Stands, front, back}
use Rattle.format.proofs.Runs.{run, length_run}

module _ (s : Multipoint) (at : ℕ) (l : List ℕ) (st : Stands at (shape_bytes (multipoint s)) l) where
  abbrev n : ℕ
  n = length s.points

  abbrev box : List ℕ
  box = run 8 (box_doubles s.box)

  abbrev rest : List ℕ
  rest = run 8 (multipoint_doubles s)

  all : Stands at (box ++ (le_bytes 4 n ++ rest)) l
  all = rw (multipoint_laid s) at st

  behind-box : Stands (at + 32) (le_bytes 4 n ++ rest) l
  behind-box = back at 32 box (le_bytes 4 n ++ rest) l (length_run 8 (box_doubles s.box)) all

  pub box_stands : Stands at box l
  box_stands = front at 32 box (le_bytes 4 n ++ rest) l (length_run 8 (box_doubles s.box)) all

  pub points_stand : Stands (at + 32) (le_bytes 4 n) l
  points_stand = front (at + 32) 4 (le_bytes 4 n) rest l (length_le_bytes 4 n) behind-box

  pub doubles_stand : Stands (at + 32 + 4) (run 8 (multipoint_doubles s)) l
  doubles_stand = back (at + 32) 4 (le_bytes 4 n) rest l (length_le_bytes 4 n) behind-box
