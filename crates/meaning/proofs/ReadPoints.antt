-- Several points that meet the rules, in parts or as a multipoint: the points, z and m that are read from their doubles, and that all these are finite.
use mathlib.Core.Path.{◌≡◌, refl, sym, ap, ◌∙◌, subst}
use mathlib.Core.Bool.{Bool, true, false, ◌&&◌, ◌||◌}
use mathlib.Core.List.{List}
use mathlib.Core.Option.{Option}
use Prim.Native.Nat.{ℕ, ◌+◌, ◌*◌, ◌≤◌}
use native.Mathlib.Omega.{arith}
use lib.Dec.{eqb}
use lib.ListN.{length}
use Rattle.format.specs.declared.kinds.Kind.{Kind}
use Rattle.format.specs.Lengths.{several_form, several, front_words, content_words}
use Rattle.format.specs.Shapes.{Point, Measure, there, MeasuresOf}
use Rattle.format.specs.WellFormed.{AllFinite, DoublesFinite}
use Rattle.format.proofs.ByteLaws.{AllBytes}
use Rattle.format.proofs.Doubles.{measured, there-read, z_in, m_in, z_right, m_right, all, all_written}
use Rattle.format.proofs.FiniteLaws.{points_finite}
use Rattle.format.proofs.Laid.{several-words, box_doubles, points_doubles, doubles_are, right_covers}
use Rattle.format.proofs.OrderLaws.{both_true}
use Rattle.format.proofs.Pairs.{pairs, length_pairs}
use Rattle.format.proofs.Places.{Stands}
use Rattle.format.proofs.Runs.{numbers, four_numbers, run, run_stands, length-numbers}
use Rattle.rules.specs.Rules.{words_of, parts_of, points_of, held, pairs_at, finites}
use Rattle.rules.proofs.FaultLaws.{Met}
use Rattle.rules.proofs.FiniteLaws.{finites_all, pairs-at, rule16}
use Rattle.meaning.proofs.Decode.{has_m, m-words, several_count, doubles_at, box_at, only_if}

pub no_parts : (f : Bool) (l : List ℕ) → f ≡ false → parts_of (several_form f) l ≡ 0
no_parts true l e = absurd (let z : ◌≡◌ {A = ℕ} 0 1 = cc in omega arith)
no_parts false l e = refl

pub all_several : (f : Bool) → several (several_form f) ≡ true
all_several true = refl
all_several false = refl

module _ (f : Bool) (k : Kind) (l : List ℕ) (b : AllBytes l) (met : Met (record { kind = k; form = several_form f }) l) where
  abbrev p : ℕ
  p = parts_of (several_form f) l

  abbrev n : ℕ
  n = points_of (several_form f) l

  abbrev front : ℕ
  front = front_words (several_form f) p

  test13 : (eqb (words_of l) (content_words (several_form f) k.z false p n) || eqb (words_of l) (content_words (several_form f) k.z k.m p n)) ≡ true
  test13 = rw (all_several f) at (both_true (held p && held n) _ met.p13).1

  pub words : words_of l ≡ content_words (several_form f) k.z (has_m f k l) p n
  words = m-words f k.z p n (words_of l) (no_parts f l) k.m test13

  words_are : words_of l ≡ front + 4 * several_count f k l
  words_are = words ∙ several-words f k.z (has_m f k l) p n (no_parts f l)

  -- what is read from the doubles
  abbrev ds : List ℕ
  ds = doubles_at f k l

  length_ds : length ds ≡ several_count f k l
  length_ds = length-numbers 8 (several_count f k l) (pairs_at (several_form f) l) l

  abbrev ps : List Point
  ps = pairs n ds

  abbrev zs : Option Measure
  zs = z_in (measured n) n k.z ds

  abbrev ms : Option Measure
  ms = m_in (measured n) n k.z (has_m f k l) ds

  pub doubles : points_doubles ps zs ms ≡ ds
  doubles =
      doubles_are ps zs ms
      ∙ (ap (λ (q : ℕ). all (measured q) ps zs ms) (length_pairs n ds) ∙ all_written (measured n) n k.z (has_m f k l) ds length_ds)

  pub has_z : there zs ≡ k.z
  has_z = there-read (measured n) k.z _

  pub has-m : there ms ≡ has_m f k l
  has-m = there-read (measured n) (has_m f k l) _

  pub measures : MeasuresOf k (length ps) zs ms
  measures =
      rw (length_pairs n ds)
      (record {
        has_z = has_z;
        may_have_m = only_if k.m _ ms has-m;
        covers_z = right_covers n zs (z_right (measured n) n k.z (has_m f k l) ds length_ds);
        covers_m = right_covers n ms (m_right (measured n) n k.z (has_m f k l) ds length_ds);
      })

  -- where it stands
  pub room : 8 + 2 * front + 8 * several_count f k l ≤ length l
  room = omega (arith, met.within, words_are)

  box_are : box_doubles (box_at l) ≡ numbers 8 4 12 l
  box_are = sym (four_numbers 8 12 l)

  pub box_stands : 44 ≤ length l → Stands 12 (run 8 (box_doubles (box_at l))) l
  box_stands h = subst (λ (q : List ℕ). Stands 12 (run 8 q) l) (sym box_are) (run_stands 8 4 12 l b h)

  pub doubles_stand : Stands (8 + 2 * front) (run 8 ds) l
  doubles_stand = rw (← pairs-at (several_form f) l) (run_stands 8 (several_count f k l) (pairs_at (several_form f) l) l b (rw (pairs-at (several_form f) l) room))

  -- what is finite
  test16 : (finites 4 12 l ≡ true) × (finites (several_count f k l) (8 + 2 * front) l ≡ true)
  test16 = both_true _ _ (rw (all_several f) at (sym (rule16 (record { kind = k; form = several_form f }) l front refl (several_count f k l) words_are) ∙ met.p16))

  pub finite : 44 ≤ length l → DoublesFinite (box_at l) ps zs ms
  finite h =
      points_finite (box_at l) ps zs ms
      (subst AllFinite (sym box_are) (finites_all 4 12 l b h test16.0))
      (subst AllFinite (sym doubles)
      (finites_all (several_count f k l) (pairs_at (several_form f) l) l b (rw (pairs-at (several_form f) l) room) (rw (pairs-at (several_form f) l) test16.1)))
