-- Several points that stand in a record's bytes, in parts or as a multipoint: what is read from their doubles, and that they meet P13 and P16.
use mathlib.Core.Path.{◌≡◌, refl, sym, ◌∙◌}
use mathlib.Core.Bool.{Bool, true}
use mathlib.Core.List.{List, ◌++◌}
use mathlib.Core.Option.{Option}
use Prim.Native.Nat.{ℕ, ◌+◌, ◌*◌, ◌^◌}
use lib.ListN.{length, get_or}
use borrow.Author.Tests.{lt-ltb}
use Rattle.format.specs.declared.kinds.Kind.{Kind}
use Rattle.format.specs.Encoding.{Held}
use Rattle.format.specs.Lengths.{several_form, front_words, content_words}
use Rattle.format.specs.Shapes.{Point, BoxXY, Measure, there, MeasuresOf}
use Rattle.format.specs.WellFormed.{AllFinite, DoublesFinite}
use Rattle.format.proofs.Doubles.{measured, write_if, z_in, m_in, z-back}
use Rattle.format.proofs.Doubles
use Rattle.format.proofs.FiniteLaws.{finite_fit, finite-points}
use Rattle.format.proofs.Laid.{several-words, box_doubles, points_doubles, doubles_are, covers_right, length-doubles}
use Rattle.format.proofs.Pairs.{pairs, pairs-read}
use Rattle.format.proofs.Places.{Stands}
use Rattle.format.proofs.Runs.{numbers, four_numbers, run, numbers-back}
use Rattle.rules.specs.Rules.{words_of, parts_of, points_of, pairs_at, P13, P16}
use Rattle.rules.proofs.FiniteLaws.{finites_true, pairs-at, rule16}
use Rattle.meaning.proofs.Decode.{has_m, m-back, m-formula, if_only, several_count, doubles_at, box_at}
use Rattle.meaning.proofs.ReadPoints.{no_parts, all_several}

-- the box, the points, z and m stand in the bytes of a record that says how many points there are, and has their words
pub record Laid (f : Bool) (k : Kind) (l : List ℕ) (box : BoxXY) (ps : List Point) (z m : Option Measure) : Type 0 where
  pub of_kind : MeasuresOf k (length ps) z m
  pub fine : DoublesFinite box ps z m
  pub count : points_of (several_form f) l ≡ length ps
  pub extent : words_of l ≡ content_words (several_form f) (there z) (there m) (parts_of (several_form f) l) (length ps)
  pub box_stands : Stands 12 (run 8 (box_doubles box)) l
  pub doubles_stand : Stands (8 + 2 * front_words (several_form f) (parts_of (several_form f) l)) (run 8 (points_doubles ps z m)) l

module _ (f : Bool) (k : Kind) (l : List ℕ) (box : BoxXY) (ps : List Point) (z m : Option Measure) (a : Laid f k l box ps z m) where
  abbrev p : ℕ
  p = parts_of (several_form f) l

  abbrev n : ℕ
  n = points_of (several_form f) l

  finite_all : AllFinite (points_doubles ps z m)
  finite_all = finite-points box ps z m a.fine

  box_read : numbers 8 4 12 l ≡ box_doubles box
  box_read = numbers-back 8 12 (box_doubles box) l (finite_fit (box_doubles box) a.fine.box_finite) a.box_stands

  pub box_same : box_at l ≡ box
  box_same =
      let e = sym (four_numbers 8 12 l) ∙ box_read in
      λ i.
      record {
        xmin = get_or (e i) 0 0;
        ymin = get_or (e i) 1 0;
        xmax = get_or (e i) 2 0;
        ymax = get_or (e i) 3 0;
      }

  -- the flags
  words : words_of l ≡ content_words (several_form f) k.z (there m) p n
  words = rw (← a.of_kind.has_z, a.count) a.extent

  pub has-m : has_m f k l ≡ there m
  has-m = m-back f k.z p n (words_of l) (no_parts f l) k.m (there m) (if_only k.m m a.of_kind.may_have_m) words

  count_read : several_count f k l ≡ length (points_doubles ps z m)
  count_read = rw (has-m, a.count, ← a.of_kind.has_z) (sym (length-doubles k ps z m a.of_kind))

  pub doubles-read : doubles_at f k l ≡ points_doubles ps z m
  doubles-read =
      rw (count_read, pairs-at (several_form f) l)
      (numbers-back 8 (8 + 2 * front_words (several_form f) p) (points_doubles ps z m) l (finite_fit (points_doubles ps z m) finite_all) a.doubles_stand)

  -- what is read from the doubles
  pub points-back : pairs (length ps) (points_doubles ps z m) ≡ ps
  points-back = rw (doubles_are ps z m) (pairs-read ps (write_if (measured (length ps)) z ++ write_if (measured (length ps)) m))

  pub z_same : z_in (measured (length ps)) (length ps) (there z) (points_doubles ps z m) ≡ z
  z_same =
      rw (doubles_are ps z m)
      (z-back (measured (length ps)) ps z m (covers_right (length ps) z a.of_kind.covers_z) (covers_right (length ps) m a.of_kind.covers_m))

  pub m_same : m_in (measured (length ps)) (length ps) (there z) (there m) (points_doubles ps z m) ≡ m
  m_same =
      rw (doubles_are ps z m)
      (Doubles.m-back (measured (length ps)) ps z m (covers_right (length ps) z a.of_kind.covers_z) (covers_right (length ps) m a.of_kind.covers_m))

  -- the rules
  pub met13 : Held p → Held (length ps) → P13 (record { kind = k; form = several_form f }) l ≡ true
  met13 hp hn =
      rw (all_several f, lt-ltb p (2 ^ 31) hp, lt-ltb n (2 ^ 31) (rw a.count hn))
      (m-formula f k.z p n (words_of l) (no_parts f l) k.m (there m) (if_only k.m m a.of_kind.may_have_m) words)

  pub met16 : P16 (record { kind = k; form = several_form f }) l ≡ true
  met16 =
      let w : words_of l ≡ front_words (several_form f) p + 4 * several_count f k l = rw has-m (words ∙ several-words f k.z (there m) p n (no_parts f l)) in
      rule16 (record { kind = k; form = several_form f }) l (front_words (several_form f) p) refl (several_count f k l) w
      ∙ rw (all_several f, finites_true 4 12 l (rw box_read a.fine.box_finite), ← pairs-at (several_form f) l)
      (finites_true (several_count f k l) (pairs_at (several_form f) l) l (rw doubles-read finite_all))
