-- A well-formed multipoint that stands in a record's bytes meets the rules, and is the one that is read from them.
use mathlib.Core.Path.{◌≡◌, sym, ◌∙◌}
use mathlib.Core.Bool.{false}
use mathlib.Core.List.{List}
use Prim.Native.Nat.{ℕ, ◌+◌, ◌*◌, ◌≤◌}
use native.Mathlib.Omega.{arith}
use lib.ListN.{length}
use borrow.Author.Tests.{le-leb}
use Rattle.format.specs.declared.kinds.Kind.{Kind}
use Rattle.format.specs.Encoding.{shape_bytes, shape_words, Held}
use Rattle.format.specs.Lengths.{many_points}
use Rattle.format.specs.Shapes.{Multipoint, multipoint, there, MultipointOf}
use Rattle.format.specs.WellFormed.{has_rings, MultipointWellFormed}
use Rattle.format.proofs.Equations.{front_many, words-multipoint}
use Rattle.format.proofs.MultipointStands.{box_stands, points_stand, doubles_stand}
use Rattle.format.proofs.Laid.{multipoint_doubles}
use Rattle.format.proofs.Places.{Stands, le-back}
use Rattle.rules.specs.Rules.{little_at, words_of}
use Rattle.rules.proofs.FaultLaws.{Met}
use Rattle.meaning.proofs.BackPoints.{Laid, box_same, has-m, doubles-read, points-back, z_same, m_same, met13, met16}
use Rattle.meaning.proofs.Decode.{multipoint_from, multipoint_at}

module _ (k : Kind) (l : List ℕ) (s : Multipoint) (o : MultipointOf k s) (v : MultipointWellFormed s) (hn : Held (length s.points))
    (w : words_of l ≡ shape_words (multipoint s)) (st : Stands 12 (shape_bytes (multipoint s)) l) where
  abbrev n : ℕ
  n = length s.points

  pub number_read : little_at 44 l ≡ n
  number_read = le-back 4 n 44 l (omega arith) (points_stand s 12 l st)

  laid : Laid false k l s.box s.points s.z s.m
  laid =
      record {
        of_kind = o.measures;
        fine = v.doubles;
        count = number_read;
        extent = w ∙ words-multipoint s;
        box_stands = box_stands s 12 l st;
        doubles_stand = rw (front_many 0) (doubles_stand s 12 l st);
      }

  itself : multipoint_from s.box n (there s.z) (there s.m) (multipoint_doubles s) ≡ s
  unfolding multipoint_from
  itself =
      λ i.
      record {
        box = s.box;
        points = points-back false k l s.box s.points s.z s.m laid i;
        z = z_same false k l s.box s.points s.z s.m laid i;
        m = m_same false k l s.box s.points s.z s.m laid i;
      }

  pub multipoint_same : multipoint_at k l ≡ s
  multipoint_same =
      (λ i.
      multipoint_from (box_same false k l s.box s.points s.z s.m laid i) (number_read i) (sym o.measures.has_z i)
      (has-m false k l s.box s.points s.z s.m laid i) (doubles-read false k l s.box s.points s.z s.m laid i))
      ∙ itself

  pub multipoint_met : has_rings k ≡ false → 8 + 2 * words_of l ≤ length l → Met (record { kind = k; form = many_points }) l
  multipoint_met none-closed within =
      record {
        within = within;
        p13 = met13 false k l s.box s.points s.z s.m laid (omega arith) hn;
        p14 = le-leb 1 (little_at 44 l) (rw number_read v.some_point);
        p15 = rw none-closed;
        p16 = met16 false k l s.box s.points s.z s.m laid;
      }
