-- A well-formed shape with parts that stands in a record's bytes meets the rules, and is the one that is read from them.
use mathlib.Core.Path.{◌≡◌, refl, sym, ap, ◌∙◌}
use mathlib.Core.Bool.{Bool, true, false, cond}
use mathlib.Core.List.{List, ◌∷◌, flatten, head-eq_of_cons-eq, tail-eq_of_cons-eq}
use Prim.Native.Nat.{ℕ, ◌+◌, ◌*◌, ◌≤◌}
use native.Mathlib.Nat.{zero-add}
use native.Mathlib.Omega.{arith}
use lib.ListN.{length}
use borrow.Author.Tests.{le-leb, eq-eqb}
use Rattle.format.specs.declared.kinds.Kind.{Kind}
use Rattle.format.specs.Encoding.{starts_from, shape_bytes, shape_words, Held}
use Rattle.format.specs.Lengths.{front_words}
use Rattle.format.specs.Lengths
use Rattle.format.specs.Shapes.{Parts, parted, there, PartsOf}
use Rattle.format.specs.WellFormed.{has_rings, least_points, PartsFine, PartsWellFormed}
use Rattle.format.proofs.Equations.{front-parts, words-parted}
use Rattle.format.proofs.PartsStand.{box_stands, parts_stand, points_stand, starts_stand, doubles_stand}
use Rattle.format.proofs.Places.{Stands, le-back}
use Rattle.format.proofs.Runs.{numbers, numbers-back}
use Rattle.format.proofs.Cuts.{fit_starts, cut, ends_from, Rise, rise_fine, starts_ends, length-starts_from, cut_ends}
use Rattle.format.proofs.Pairs.{length_pairs, pairs}
use Rattle.format.proofs.Laid.{parts_doubles}
use Rattle.rules.specs.Rules.{little_at, words_of, pairs_at, rings_closed}
use Rattle.rules.proofs.Ends.{ends_at, starts-at, of_rise, at_point, parts-closed}
use Rattle.rules.proofs.FaultLaws.{Met}
use Rattle.meaning.proofs.BackPoints.{Laid, box_same, has-m, doubles-read, points-back, z_same, m_same, met13, met16}
use Rattle.meaning.proofs.Decode.{several_count, doubles_at, parts_from, parts_at}

module _ (k : Kind) (l : List ℕ) (s : Parts) (o : PartsOf k s) (v : PartsWellFormed k s) (hp : Held (length s.parts))
    (hn : Held (length (flatten s.parts))) (w : words_of l ≡ shape_words (parted s)) (st : Stands 12 (shape_bytes (parted s)) l) where
  abbrev p : ℕ
  p = length s.parts

  abbrev n : ℕ
  n = length (flatten s.parts)

  abbrev starts : List ℕ
  starts = starts_from 0 s.parts

  -- what is read from them
  pub parts-read : little_at 44 l ≡ p
  parts-read = le-back 4 p 44 l (omega arith) (parts_stand s 12 l st)

  pub points-read : little_at 48 l ≡ n
  points-read = le-back 4 n 48 l (omega arith) (points_stand s 12 l st)

  starts_read : numbers 4 p 52 l ≡ starts
  starts_read =
      rw (length-starts_from 0 s.parts) at
      (numbers-back 4 52 starts l (fit_starts 0 s.parts (omega arith)) (starts_stand s 12 l st))

  laid : Laid true k l s.box (flatten s.parts) s.z s.m
  laid =
      let place : 8 + 2 * front_words Lengths.parts (little_at 44 l) ≡ 52 + 4 * p = omega (arith, front-parts (little_at 44 l), parts-read) in
      record {
        of_kind = o.measures;
        fine = v.doubles;
        count = points-read;
        extent = rw parts-read (w ∙ words-parted s);
        box_stands = box_stands s 12 l st;
        doubles_stand = rw place (doubles_stand s 12 l st);
      }

  some_part : 1 ≤ little_at 44 l
  some_part = rw parts-read v.some_part

  ends_read : little_at 52 l ∷ ends_at (little_at 44 l) 56 (little_at 48 l) l ≡ 0 ∷ ends_from 0 s.parts
  ends_read =
      sym (starts-at (little_at 44 l) 52 (little_at 48 l) l some_part)
      ∙ rw (parts-read, points-read, starts_read) (rw (zero-add n) at (starts_ends 0 s.parts))

  ends_same : ends_at (little_at 44 l) 56 (little_at 48 l) l ≡ ends_from 0 s.parts
  ends_same = tail-eq_of_cons-eq ends_read

  -- the shape
  itself : parts_from s.box (ends_from 0 s.parts) n (there s.z) (there s.m) (parts_doubles s) ≡ s
  unfolding parts_from
  itself =
      λ i.
      record {
        box = s.box;
        parts = (ap (cut 0 (ends_from 0 s.parts)) (points-back true k l s.box (flatten s.parts) s.z s.m laid) ∙ cut_ends 0 s.parts) i;
        z = z_same true k l s.box (flatten s.parts) s.z s.m laid i;
        m = m_same true k l s.box (flatten s.parts) s.z s.m laid i;
      }

  pub parts_same : parts_at k l ≡ s
  parts_same =
      (λ i.
      parts_from (box_same true k l s.box (flatten s.parts) s.z s.m laid i) (ends_same i) (points-read i) (sym o.measures.has_z i)
      (has-m true k l s.box (flatten s.parts) s.z s.m laid i) (doubles-read true k l s.box (flatten s.parts) s.z s.m laid i))
      ∙ itself

  -- the rules
  rise : Rise (least_points k) 0 (ends_at (little_at 44 l) 56 (little_at 48 l) l) (little_at 48 l)
  rise = rw (ends_same, points-read) (rw (zero-add n) at (rise_fine k 0 s.parts v.each_part))

  fine : PartsFine k (parts_at k l).parts
  fine = rw parts_same v.each_part

  closed : (b : Bool) → has_rings k ≡ b → cond b (rings_closed (pairs_at Lengths.parts l) (little_at 44 l) 56 0 (little_at 48 l) l) true ≡ true
  unfolding parts_from
  closed false q = refl
  closed true q =
      let ds = doubles_at true k l in
      let m = little_at 48 l in
      let at = pairs_at Lengths.parts l in
      let c : 2 * m ≤ several_count true k l = omega arith in
      parts-closed k (pairs m ds) at m l (length_pairs m ds) (at_point (several_count true k l) at m l c) q (little_at 44 l) 56 0 rise fine

  pub parts_met : 8 + 2 * words_of l ≤ length l → Met (record { kind = k; form = Lengths.parts }) l
  parts_met within =
      record {
        within = within;
        p13 = met13 true k l s.box (flatten s.parts) s.z s.m laid (rw parts-read hp) hn;
        p14 =
            rw (le-leb 1 (little_at 44 l) some_part, eq-eqb (little_at 52 l) 0 (head-eq_of_cons-eq ends_read))
            (of_rise (least_points k) (little_at 44 l) 56 0 (little_at 48 l) l rise);
        p15 = closed (has_rings k) refl;
        p16 = met16 true k l s.box (flatten s.parts) s.z s.m laid;
      }
