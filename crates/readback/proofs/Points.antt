-- Reading the content of a point: its size is right, every field is whole, and the point is the one that was encoded.
use mathlib.Core.Path.{◌≡◌, refl, ap, ◌∙◌}
use mathlib.Core.Bool.{Bool, true, false, cond}
use mathlib.Core.List.{List, [], ◌∷◌, ◌++◌, flatten}
use mathlib.Core.Option.{Option, none, some}
use Prim.Native.Nat.{ℕ, ◌+◌, ◌*◌, ◌≤◌, ◌<◌}
use native.Mathlib.Omega.{arith}
use lib.Dec.{lit<}
use lib.Ieee.{binary64, of_int}
use lib.IntN.{pos}
use lib.ListN.{length, get_or}
use borrow.Author.Tests.{eq-eqb}
use Rattle.format.specs.declared.kinds.Kind.{Kind}
use Rattle.format.specs.Bytes.{le_bytes}
use Rattle.format.specs.Encoding.{content, shape_words}
use Rattle.format.specs.Lengths.{one_point, content_words}
use Rattle.format.specs.Numbers.{le_f64}
use Rattle.format.specs.Said.{gives}
use Rattle.format.specs.Shapes.{Point, point, there, PointOf}
use Rattle.format.proofs.ByteLaws.{length_le_bytes}
use Rattle.format.proofs.Doubles.{write_if}
use Rattle.format.proofs.Doubles
use Rattle.format.proofs.Equations.{words-point}
use Rattle.format.proofs.Laid.{point-words, point_laid, length-content, content-behind}
use Rattle.format.proofs.Places.{Stands, all_behind, front, back}
use Rattle.format.proofs.Runs.{run, run_append, length_run, double-back, double-at}
use Rattle.rules.specs.Meaning.{TakenKind}
use Rattle.record.specs.Reading.{point_of, point_in, point_shape, doubles_of}
use Rattle.record.proofs.PointLaws
use Rattle.readback.specs.Held.{PointHeld, ValueHeld}
use Rattle.readback.specs.ReadBack.{value, value_or, shaped_as, size}
use Rattle.readback.proofs.Contents.{code-back}

-- the bytes of z or of m
abbrev laid : Option ℕ → List ℕ
laid o = run 8 (write_if Doubles.value o)

value-back : (at : ℕ) (s : List ℕ) (flag : Bool) (o : Option ℕ) → there o ≡ flag → ValueHeld o → Stands at (laid o) s → cond flag (le_f64 at s) (of_int binary64 (pos 0)) ≡ value_or o
unfolding flatten
value-back at s flag none e f p = rw (← e)
value-back at s flag (some d) e f p = rw (← e) (double-back d at s f (front at 8 (le_bytes 8 d) [] s (length_le_bytes 8 d) p))

length_laid : (o : Option ℕ) → length (laid o) ≡ cond (there o) 8 0
length_laid none = length_run 8 []
length_laid (some d) = length_run 8 (d ∷ [])

m-place : (z flag : Bool) → z ≡ flag → cond flag 28 20 ≡ 20 + cond z 8 0
m-place true flag e = rw (← e)
m-place false flag e = rw (← e)

module _ (k : Kind) (xy : Point) (z m : Option ℕ) (t : TakenKind k) (o : PointOf k z m) (v : PointHeld xy z m) where
  abbrev bytes : List ℕ
  bytes = content k (point xy z m)

  abbrev two : List ℕ
  two = xy.x ∷ xy.y ∷ []

  abbrev measures : List ℕ
  measures = write_if Doubles.value z ++ write_if Doubles.value m

  at4 : Stands 4 (run 8 two ++ run 8 measures) bytes
  at4 = rw (← run_append 8 two measures) (all_behind 4 _ bytes (content-behind k (point xy z m) ∙ point_laid xy z m))

  at20 : Stands 20 (laid z ++ laid m) bytes
  at20 =
      rw (← run_append 8 (write_if Doubles.value z) (write_if Doubles.value m))
      (back 4 16 (run 8 two) (run 8 measures) bytes (length_run 8 two) at4)

  xy-is : (i : ℕ) → i < 2 → le_f64 (4 + 8 * i) bytes ≡ value (get_or two i 0)
  xy-is = double-at 4 two bytes (v.x_held, (v.y_held, tt)) (front 4 16 (run 8 two) (run 8 measures) bytes (length_run 8 two) at4)

  z-is : cond k.z (le_f64 20 bytes) (of_int binary64 (pos 0)) ≡ value_or z
  z-is = value-back 20 bytes k.z z o.has_z v.z_held (front 20 _ (laid z) (laid m) bytes (length_laid z) at20)

  m-is : cond k.m (le_f64 (cond k.z 28 20) bytes) (of_int binary64 (pos 0)) ≡ value_or m
  m-is =
      rw (m-place (there z) k.z o.has_z)
      (value-back _ bytes k.m m o.has-m v.m_held (back 20 _ (laid z) (laid m) bytes (length_laid z) at20))

  point-is : point_shape (pos k.code) (point_in k bytes) ≡ shaped_as k (point xy z m)
  point-is = rw (xy-is 0 (lit< tt), xy-is 1 (lit< tt), z-is, m-is)

  size-right : content_words one_point k.z k.m 0 1 ≡ shape_words (point xy z m)
  size-right = rw (words-point xy z m, o.has_z, o.has-m)

  inside : 4 + 8 * doubles_of k ≤ length bytes
  inside = omega (arith, length-content k (point xy z m) o, size-right, point-words k.z k.m)

  pub point-said : point_of k (size (point xy z m)) bytes ≡ gives (shaped_as k (point xy z m))
  point-said =
      PointLaws.point-said k (size (point xy z m)) bytes (rw size-right (eq-eqb (2 * shape_words (point xy z m)) (2 * shape_words (point xy z m)) refl)) inside
      ∙ rw (code-back k (point xy z m) t) (ap gives point-is)
