-- A record with one point: where it meets the rules it holds the point that is read from it, and a finite point that stands there meets them.
use mathlib.Core.Path.{◌≡◌, refl, sym, ap, ◌∙◌, subst}
use mathlib.Core.Bool.{Bool, true, false, ◌||◌}
use mathlib.Core.List.{List, [], ◌∷◌}
use mathlib.Core.Option.{Option, some}
use Prim.Native.Nat.{ℕ, ◌+◌, ◌*◌, ◌≤◌}
use native.Mathlib.Omega.{arith}
use lib.ListN.{length, get_or}
use borrow.Author.Tests.{eq-eqb, eqb-true}
use Rattle.format.specs.declared.kinds.Kind.{Kind}
use Rattle.format.specs.Encoding.{shape_bytes, shape_words}
use Rattle.format.specs.Lengths.{one_point, form_of, content_words}
use Rattle.format.specs.Shapes.{Point, point, there, PointOf}
use Rattle.format.specs.WellFormed.{has_rings, AllFinite, PointWellFormed}
use Rattle.format.proofs.ByteLaws.{AllBytes}
use Rattle.format.proofs.FiniteLaws.{finite_fit, finite-append, finite-front, finite-back, value-finite, finite-value}
use Rattle.format.proofs.Equations.{front-point, parts-point, points-point, words-point}
use Rattle.format.proofs.OrderLaws.{both_true}
use Rattle.format.proofs.Places.{Stands}
use Rattle.format.proofs.Runs.{numbers, numbers-back, run, run_stands, length-numbers}
use Rattle.format.proofs.Doubles.{value, write_if, there-read, z_in, m_in, all_written, length_all, z-back, m-back}
use Rattle.format.proofs.Pairs.{nowhere, pairs, pairs_one}
use Rattle.format.proofs.Laid.{point-words, point_doubles, point_laid, any_right}
use Rattle.rules.specs.Rules.{words_of, finites}
use Rattle.rules.proofs.FiniteLaws.{finites_all, finites_true, finites-none, rule16}
use Rattle.rules.proofs.FaultLaws.{Met}
use Rattle.meaning.proofs.Decode.{point_count, point_from, shape_at, Shaped}

pub same_twice : (a : Bool) → (a || a) ≡ true → a ≡ true
same_twice true e = refl
same_twice false e = e

module _ (k : Kind) (l : List ℕ) (b : AllBytes l) (f : form_of k ≡ some one_point) (met : Met (record { kind = k; form = one_point }) l) where
  abbrev ds : List ℕ
  ds = numbers 8 (point_count k) 12 l

  abbrev xy : Point
  xy = get_or (pairs 1 ds) 0 nowhere

  abbrev z : Option ℕ
  z = z_in value 1 k.z ds

  abbrev m : Option ℕ
  m = m_in value 1 k.z k.m ds

  words : words_of l ≡ content_words one_point k.z k.m 0 1
  words = eqb-true _ _ (same_twice _ met.p13)

  words_are : words_of l ≡ 2 + 4 * point_count k
  words_are = words ∙ point-words k.z k.m

  room : 12 + 8 * point_count k ≤ length l
  room = omega (arith, words_are, met.within)

  written : point_doubles xy z m ≡ ds
  written = rw (pairs_one ds) (rw (pairs_one ds) at (all_written value 1 k.z k.m ds (length-numbers 8 (point_count k) 12 l)))

  all_finite : AllFinite (point_doubles xy z m)
  all_finite =
      let e = both_true (finites 0 12 l) _ (sym (rule16 (record { kind = k; form = one_point }) l 2 (front-point 0) (point_count k) words_are) ∙ met.p16) in
      subst AllFinite (sym written) (finites_all (point_count k) 12 l b room e.1)

  has_z : there z ≡ k.z
  has_z = there-read value k.z _

  has-m : there m ≡ k.m
  has-m = there-read value k.m _

  pub read-point : Shaped (record { kind = k; form = one_point }) l (shape_at k one_point l)
  unfolding shape_at point_from
  read-point =
      record {
        of_kind = record { form = f; has_z = has_z; has-m = has-m };
        well =
            record {
              x_finite = all_finite.0;
              y_finite = all_finite.1.0;
              z_finite = value-finite z (finite-front (write_if value z) (write_if value m) all_finite.1.1);
              m_finite = value-finite m (finite-back (write_if value z) (write_if value m) all_finite.1.1);
            };
        words = rw (words-point xy z m, has_z, has-m) words;
        parts = sym (parts-point xy z m);
        points = sym (points-point xy z m);
        stands = subst (λ (q : List ℕ). Stands 12 q l) (sym (point_laid xy z m ∙ ap (run 8) written)) (run_stands 8 (point_count k) 12 l b room);
      }

module _ (k : Kind) (l : List ℕ) (xy : Point) (z m : Option ℕ) (o : PointOf k z m) (v : PointWellFormed xy z m) (w : words_of l ≡ shape_words (point xy z m))
    (st : Stands 12 (shape_bytes (point xy z m)) l) where
  finite_all : AllFinite (point_doubles xy z m)
  finite_all = (v.x_finite, (v.y_finite, finite-append (write_if value z) (write_if value m) (finite-value z v.z_finite) (finite-value m v.m_finite)))

  words_back : words_of l ≡ content_words one_point k.z k.m 0 1
  words_back = rw (← o.has_z, ← o.has-m) (w ∙ words-point xy z m)

  count_read : point_count k ≡ length (point_doubles xy z m)
  count_read = rw (← o.has_z, ← o.has-m) (sym (length_all value (xy ∷ []) z m (any_right z) (any_right m)))

  doubles-read : numbers 8 (point_count k) 12 l ≡ point_doubles xy z m
  doubles-read = rw count_read (numbers-back 8 12 (point_doubles xy z m) l (finite_fit (point_doubles xy z m) finite_all) (rw (point_laid xy z m) at st))

  itself : point_from (there z) (there m) (point_doubles xy z m) ≡ point xy z m
  unfolding point_from
  itself = rw (pairs_one (point_doubles xy z m)) (λ i. point xy (z-back value (xy ∷ []) z m (any_right z) (any_right m) i) (m-back value (xy ∷ []) z m (any_right z) (any_right m) i))

  pub point_same : shape_at k one_point l ≡ point xy z m
  unfolding shape_at
  point_same = (λ i. point_from (sym o.has_z i) (sym o.has-m i) (doubles-read i)) ∙ itself

  pub point_met : has_rings k ≡ false → 8 + 2 * words_of l ≤ length l → Met (record { kind = k; form = one_point }) l
  point_met none-closed within =
      record {
        within = within;
        p13 = rw (eq-eqb _ _ words_back);
        p14 = refl;
        p15 = rw none-closed;
        p16 =
            rule16 (record { kind = k; form = one_point }) l 2 (front-point 0) (point_count k) (words_back ∙ point-words k.z k.m)
            ∙ rw (finites-none 12 l) (finites_true (point_count k) 12 l (rw doubles-read finite_all));
      }
