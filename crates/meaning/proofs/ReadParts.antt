-- A record with parts that meets the rules holds the shape that is read from it.
use mathlib.Core.Path.{◌≡◌, sym, ap, ◌∙◌}
use mathlib.Core.Bool.{true, ◌&&◌}
use mathlib.Core.List.{List, [], ◌∷◌, ◌++◌, flatten, append_cancel_right}
use mathlib.Core.Option.{some}
use Prim.Native.Nat.{ℕ, ◌+◌, ◌*◌, ◌≤◌}
use native.Mathlib.Omega.{arith}
use lib.Dec.{leb, eqb}
use lib.ListN.{length}
use borrow.Author.Tests.{leb-true, eqb-true}
use Rattle.format.specs.declared.kinds.Kind.{Kind}
use Rattle.format.specs.Bytes.{le_bytes}
use Rattle.format.specs.Encoding.{starts_from, shape_bytes, shape_words}
use Rattle.format.specs.Lengths.{form_of}
use Rattle.format.specs.Lengths
use Rattle.format.specs.Shapes.{Point, Parts, parted, MeasuresOf}
use Rattle.format.specs.WellFormed.{least_points, PartsFine, DoublesFinite}
use Rattle.format.proofs.ByteLaws.{AllBytes, length_le_bytes}
use Rattle.format.proofs.Equations.{front-parts, parts-parted, points-parted, words-parted}
use Rattle.format.proofs.OrderLaws.{both_true}
use Rattle.format.proofs.Places.{Stands, join, le_stands}
use Rattle.format.proofs.Runs.{numbers, run, run_stands, length-numbers, length_run}
use Rattle.format.proofs.Cuts.{Rise, starts_ends, flatten_cut, ends_cut, length_cut}
use Rattle.format.proofs.Pairs.{pairs, length_pairs}
use Rattle.format.proofs.Laid.{box_doubles, parts_laid}
use Rattle.rules.specs.Rules.{little_at, words_of, pairs_at, parts_long}
use Rattle.rules.proofs.Ends.{ends_at, length_ends_at, starts-at, rise_of, at_point, parts-fine}
use Rattle.rules.proofs.FaultLaws.{Met}
use Rattle.meaning.proofs.Decode.{several_count, doubles_at, parts_from, parts_at, shape_at, Shaped}
use Rattle.meaning.proofs.ReadPoints.{words, doubles, has_z, has-m, measures, room, box_stands, doubles_stand, finite}

module _ (k : Kind) (l : List ℕ) (b : AllBytes l) (f : form_of k ≡ some Lengths.parts) (met : Met (record { kind = k; form = Lengths.parts }) l) where
  abbrev p : ℕ
  p = little_at 44 l

  abbrev n : ℕ
  n = little_at 48 l

  test14 : (leb 1 p && eqb (little_at 52 l) 0 ≡ true) × (parts_long (least_points k) p 56 0 n l ≡ true)
  test14 = both_true _ _ met.p14

  some_part : 1 ≤ p
  some_part = leb-true 1 p (both_true _ _ test14.0).0

  first-start : little_at 52 l ≡ 0
  first-start = eqb-true _ _ (both_true (leb 1 p) _ test14.0).1

  rise : Rise (least_points k) 0 (ends_at p 56 n l) n
  rise = rise_of (least_points k) p 56 0 n l some_part test14.1

  -- the points, and the shape
  abbrev ds : List ℕ
  ds = doubles_at true k l

  abbrev ps : List Point
  ps = pairs n ds

  abbrev s : Parts
  s = parts_at k l

  flat : flatten s.parts ≡ ps
  unfolding parts_from
  flat = flatten_cut (least_points k) 0 (ends_at p 56 n l) ps n rise (omega (arith, length_pairs n ds))

  length-flat : length (flatten s.parts) ≡ n
  length-flat = ap length flat ∙ length_pairs n ds

  length-parts : length s.parts ≡ p
  unfolding parts_from
  length-parts = length_cut 0 (ends_at p 56 n l) ps ∙ length_ends_at p 56 n l

  starts : starts_from 0 s.parts ≡ numbers 4 p 52 l
  unfolding parts_from
  starts =
      let e : 0 + length (flatten s.parts) ≡ n = omega (arith, length-flat) in
      append_cancel_right _ _ (n ∷ [])
      (rw e at (starts_ends 0 s.parts)
      ∙ (ap (◌∷◌ 0) (ends_cut (least_points k) 0 (ends_at p 56 n l) ps n rise (omega (arith, length_pairs n ds)))
      ∙ (ap (λ (a : ℕ). a ∷ ends_at p 56 n l) (sym first-start)
      ∙ sym (starts-at p 52 n l some_part))))

  inside : 52 + 4 * p + 8 * several_count true k l ≤ length l
  inside = omega (arith, front-parts p, room true k l b met)

  place : 8 + 2 * Lengths.front_words Lengths.parts p ≡ 52 + 4 * p
  place = omega (arith, front-parts p)

  abbrev at52 : List ℕ
  at52 = run 4 (numbers 4 p 52 l)

  length_at52 : length at52 ≡ 4 * p
  length_at52 = length_run 4 (numbers 4 p 52 l) ∙ ap (λ (i : ℕ). 4 * i) (length-numbers 4 p 52 l)

  stands : Stands 12 (shape_bytes (parted s)) l
  unfolding parts_from
  stands =
      rw (parts_laid s, length-parts, length-flat, starts, flat, doubles true k l b met)
      (join 12 32 (run 8 (box_doubles s.box)) (le_bytes 4 p ++ (le_bytes 4 n ++ (at52 ++ run 8 ds))) l (length_run 8 (box_doubles s.box))
      (box_stands true k l b met (omega (arith, inside)))
      (join 44 4 (le_bytes 4 p) (le_bytes 4 n ++ (at52 ++ run 8 ds)) l (length_le_bytes 4 p) (le_stands 4 44 l b (omega (arith, inside)))
      (join 48 4 (le_bytes 4 n) (at52 ++ run 8 ds) l (length_le_bytes 4 n) (le_stands 4 48 l b (omega (arith, inside)))
      (join 52 (4 * p) at52 (run 8 ds) l length_at52 (run_stands 4 p 52 l b (omega (arith, inside)))
      (rw place at (doubles_stand true k l b met))))))

  fine : PartsFine k s.parts
  unfolding parts_from
  fine =
      parts-fine k ps (pairs_at Lengths.parts l) n l (length_pairs n ds) (at_point (several_count true k l) (pairs_at Lengths.parts l) n l (omega arith)) p 56 0 rise
      (λ q. rw q at met.p15)

  finite_all : DoublesFinite s.box (flatten s.parts) s.z s.m
  unfolding parts_from
  finite_all = rw flat (finite true k l b met (omega (arith, inside)))

  measured_all : MeasuresOf k (length (flatten s.parts)) s.z s.m
  unfolding parts_from
  measured_all = rw flat (measures true k l b met)

  words-shape : words_of l ≡ shape_words (parted s)
  unfolding parts_from
  words-shape = rw (words-parted s, has_z true k l b met, has-m true k l b met, length-parts, length-flat) (words true k l b met)

  pub read-parts : Shaped (record { kind = k; form = Lengths.parts }) l (shape_at k Lengths.parts l)
  unfolding shape_at
  read-parts =
      record {
        of_kind = record { form = f; measures = measured_all };
        well = record { some_part = rw length-parts some_part; each_part = fine; doubles = finite_all };
        words = words-shape;
        parts = sym (parts-parted s ∙ length-parts);
        points = sym (points-parted s ∙ length-flat);
        stands = stands;
      }
