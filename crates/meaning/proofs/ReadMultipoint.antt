-- A multipoint's record that meets the rules holds the shape that is read from it.
use mathlib.Core.Path.{◌≡◌, sym, ◌∙◌}
use mathlib.Core.Bool.{false}
use mathlib.Core.List.{List, ◌++◌}
use mathlib.Core.Option.{some}
use Prim.Native.Nat.{ℕ, ◌+◌, ◌*◌, ◌≤◌}
use native.Mathlib.Omega.{arith}
use lib.ListN.{length}
use borrow.Author.Tests.{leb-true}
use Rattle.format.specs.declared.kinds.Kind.{Kind}
use Rattle.format.specs.Bytes.{le_bytes}
use Rattle.format.specs.Encoding.{shape_bytes, shape_words}
use Rattle.format.specs.Lengths.{many_points, form_of}
use Rattle.format.specs.Shapes.{Multipoint, multipoint}
use Rattle.format.proofs.ByteLaws.{AllBytes, length_le_bytes}
use Rattle.format.proofs.Equations.{front_many, parts-multipoint, points-multipoint, words-multipoint}
use Rattle.format.proofs.Laid.{box_doubles, multipoint_laid}
use Rattle.format.proofs.Pairs.{length_pairs}
use Rattle.format.proofs.Places.{Stands, join, le_stands}
use Rattle.format.proofs.Runs.{run, length_run}
use Rattle.rules.specs.Rules.{little_at, words_of}
use Rattle.rules.proofs.FaultLaws.{Met}
use Rattle.meaning.proofs.Decode.{several_count, doubles_at, multipoint_from, multipoint_at, shape_at, Shaped}
use Rattle.meaning.proofs.ReadPoints.{words, doubles, has_z, has-m, measures, room, box_stands, doubles_stand, finite}

module _ (k : Kind) (l : List ℕ) (b : AllBytes l) (f : form_of k ≡ some many_points) (met : Met (record { kind = k; form = many_points }) l) where
  abbrev n : ℕ
  n = little_at 44 l

  abbrev ds : List ℕ
  ds = doubles_at false k l

  abbrev s : Multipoint
  s = multipoint_at k l

  inside : 48 + 8 * several_count false k l ≤ length l
  inside = omega (arith, front_many 0, room false k l b met)

  length-points : length s.points ≡ n
  unfolding multipoint_from
  length-points = length_pairs n ds

  stands : Stands 12 (shape_bytes (multipoint s)) l
  unfolding multipoint_from
  stands =
      rw (multipoint_laid s, length_pairs n ds, doubles false k l b met)
      (join 12 32 (run 8 (box_doubles s.box)) (le_bytes 4 n ++ run 8 ds) l (length_run 8 (box_doubles s.box)) (box_stands false k l b met (omega (arith, inside)))
      (join 44 4 (le_bytes 4 n) (run 8 ds) l (length_le_bytes 4 n) (le_stands 4 44 l b (omega (arith, inside))) (rw (front_many 0) at (doubles_stand false k l b met))))

  words-shape : words_of l ≡ shape_words (multipoint s)
  unfolding multipoint_from
  words-shape = rw (words-multipoint s, has_z false k l b met, has-m false k l b met, length_pairs n ds) (words false k l b met)

  pub read-multipoint : Shaped (record { kind = k; form = many_points }) l (shape_at k many_points l)
  unfolding shape_at multipoint_from
  read-multipoint =
      record {
        of_kind = record { form = f; measures = measures false k l b met };
        well = record { some_point = rw length-points (leb-true 1 n met.p14); doubles = finite false k l b met (omega (arith, inside)) };
        words = words-shape;
        parts = sym (parts-multipoint s);
        points = sym (points-multipoint s ∙ length-points);
        stands = stands;
      }
