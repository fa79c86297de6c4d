-- Where the fields of a shape with parts stand: its box, its counts, its starts and its doubles, one behind the other from the place of the first byte.
use mathlib.Core.Path.{◌≡◌, ap, ◌∙◌}
use mathlib.Core.List.{List, ◌++◌, flatten}
use Prim.Native.Nat.{ℕ, ◌+◌, ◌*◌}
use lib.ListN.{length}
use Rattle.format.specs.Bytes.{le_bytes}
use Rattle.format.specs.Encoding.{starts_from, shape_bytes}
use Rattle.format.specs.Shapes.{Parts, parted}
use Rattle.format.proofs.ByteLaws.{length_le_bytes}
use Rattle.format.proofs.Cuts.{length-starts_from}
use Rattle.format.proofs.Laid.{box_doubles, parts_doubles, parts_laid}
use Rattle.format.proofs.Places.{Stands, front, back}
use Rattle.format.proofs.Runs.{run, length_run}

module _ (s : Parts) (at : ℕ) (l : List ℕ) (st : Stands at (shape_bytes (parted s)) l) where
  abbrev p : ℕ
  p = length s.parts

  abbrev n : ℕ
  n = length (flatten s.parts)

  abbrev box : List ℕ
  box = run 8 (box_doubles s.box)

  abbrev starts : List ℕ
  starts = run 4 (starts_from 0 s.parts)

  abbrev rest : List ℕ
  rest = starts ++ run 8 (parts_doubles s)

  length_starts : length starts ≡ 4 * p
  length_starts = length_run 4 (starts_from 0 s.parts) ∙ ap (λ (i : ℕ). 4 * i) (length-starts_from 0 s.parts)

  all : Stands at (box ++ (le_bytes 4 p ++ (le_bytes 4 n ++ rest))) l
  all = rw (parts_laid s) at st

  behind-box : Stands (at + 32) (le_bytes 4 p ++ (le_bytes 4 n ++ rest)) l
  behind-box = back at 32 box (le_bytes 4 p ++ (le_bytes 4 n ++ rest)) l (length_run 8 (box_doubles s.box)) all

  behind-parts : Stands (at + 32 + 4) (le_bytes 4 n ++ rest) l
  behind-parts = back (at + 32) 4 (le_bytes 4 p) (le_bytes 4 n ++ rest) l (length_le_bytes 4 p) behind-box

  behind-points : Stands (at + 32 + 4 + 4) rest l
  behind-points = back (at + 32 + 4) 4 (le_bytes 4 n) rest l (length_le_bytes 4 n) behind-parts

  pub box_stands : Stands at box l
  box_stands = front at 32 box (le_bytes 4 p ++ (le_bytes 4 n ++ rest)) l (length_run 8 (box_doubles s.box)) all

  pub parts_stand : Stands (at + 32) (le_bytes 4 p) l
  parts_stand = front (at + 32) 4 (le_bytes 4 p) (le_bytes 4 n ++ rest) l (length_le_bytes 4 p) behind-box

  pub points_stand : Stands (at + 32 + 4) (le_bytes 4 n) l
  points_stand = front (at + 32 + 4) 4 (le_bytes 4 n) rest l (length_le_bytes 4 n) behind-parts

  pub starts_stand : Stands (at + 32 + 4 + 4) starts l
  starts_stand = front (at + 32 + 4 + 4) (4 * p) starts (run 8 (parts_doubles s)) l length_starts behind-points

  pub doubles_stand : Stands (at + 32 + 4 + 4 + 4 * p) (run 8 (parts_doubles s)) l
  doubles_stand = back (at + 32 + 4 + 4) (4 * p) starts (run 8 (parts_doubles s)) l length_starts behind-points
