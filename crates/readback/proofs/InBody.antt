-- Several points laid out in a body's bytes, in parts or as a multipoint: what the definitions of a body find there are their own tables, each at its
-- place, and every test passes.
use mathlib.Core.Path.{◌≡◌, refl, sym, ap, ◌∙◌}
use mathlib.Core.Bool.{Bool, true, false, cond, ◌||◌, not}
use mathlib.Core.List.{List, ◌++◌, map}
use mathlib.Core.Option.{Option}
use Prim.Native.Nat.{ℕ, ◌+◌, ◌*◌, ◌≤◌, ◌<◌}
use native.Mathlib.Nat.{zero-add}
use native.Mathlib.Omega.{arith}
use lib.Dec.{leb, lit<}
use lib.ListN.{length, get_or}
use borrow.Author.Tests.{le-leb}
use Rattle.format.specs.declared.kinds.Kind.{Kind}
use Rattle.format.specs.Numbers.{le_f64}
use Rattle.format.specs.Said.{gives, short}
use Rattle.format.specs.Shapes.{Point, BoxXY, Measure, there, MeasuresOf}
use Rattle.format.specs.WellFormed.{coordinates}
use Rattle.format.proofs.Laid.{box_doubles, points_doubles, doubles_laid}
use Rattle.format.proofs.OrderLaws.{fields_whole}
use Rattle.format.proofs.Pairs.{length-coordinates, xs_back, ys_back}
use Rattle.format.proofs.Places.{Stands, front, back}
use Rattle.format.proofs.Runs.{run, length_run, double-at}
use Rattle.multipart.specs.Body.{parts_in, number_at, points_in, z_at, m_at, raised, x_in, y_in, z_in, m_in, has_room, body_in, body_of, count_tests, measure_tests, pair_tests, rest_tests}
use Rattle.multipart.specs.Walks.{Passes}
use Rattle.multipart.proofs.BodyLaws.{x_here, y_here, z_here, m_here, body_here, whole-body}
use Rattle.multipart.proofs.RestLaws
use Rattle.readback.specs.Held.{DoublesHeld}
use Rattle.readback.specs.ReadBack.{value, body_as, RoomFor, xs_of, ys_of, values_of}
use Rattle.readback.proofs.Measures.{laid, length_laid, range_back, values-back, map-cond}

-- where the pairs, z and m stand
abbrev pub pairs_place : Bool → ℕ → ℕ
pairs_place f p = number_at f + 4 + 4 * p

abbrev pub z_place : Bool → ℕ → ℕ → ℕ
z_place f p n = pairs_place f p + 16 * n

abbrev pub measure_size : Option Measure → ℕ → ℕ
measure_size o n = cond (there o) (16 + 8 * n) 0

-- p parts, the box, the points, z and m fill the bytes, and the tests of the counts and the pairs pass
pub record LaidOut (f : Bool) (k : Kind) (b : List ℕ) (p : ℕ) (box : BoxXY) (ps : List Point) (z m : Option Measure) : Type 0 where
  pub of_kind : MeasuresOf k (length ps) z m
  pub held : DoublesHeld box ps z m
  pub size : length b ≡ z_place f p (length ps) + measure_size z (length ps) + measure_size m (length ps)
  pub box_stands : Stands 0 (run 8 (box_doubles box)) b
  pub doubles_stand : Stands (pairs_place f p) (run 8 (points_doubles ps z m)) b
  pub parts_are : p ≡ parts_in f b
  pub points_are : length ps ≡ points_in f b
  pub counts_pass : Passes (count_tests f b)
  pub pairs_pass : Passes (pair_tests f b)

measure_pass : (flag : Bool) (n at : ℕ) (s : List ℕ) → at + cond flag (16 + 8 * n) 0 ≤ length s → Passes (measure_tests flag n at s)
measure_pass true n at s h a = fields_whole 8 (lit< tt) (2 + n) at s short a (omega arith)
measure_pass false n at s h a = refl

store_fits : (flag : Bool) (n room : ℕ) → (flag ≡ true → n ≤ room) → (not flag || leb n room) ≡ true
store_fits true n room h = le-leb n room (h refl)
store_fits false n room h = refl

module _ (f : Bool) (k : Kind) (b : List ℕ) (p : ℕ) (box : BoxXY) (ps : List Point) (z m : Option Measure) (a : LaidOut f k b p box ps z m) where
  abbrev n : ℕ
  n = length ps

  abbrev m_place : ℕ
  m_place = z_place f p n + measure_size z n

  -- ---- where each of them stands

  abbrev measures : List ℕ
  measures = laid n z ++ laid n m

  length_pairs : length (run 8 (coordinates ps)) ≡ 16 * n
  length_pairs = rw (length_run 8 (coordinates ps), length-coordinates ps) (omega arith)

  at_doubles : Stands (pairs_place f p) (run 8 (coordinates ps) ++ measures) b
  at_doubles = rw (doubles_laid ps z m) at a.doubles_stand

  at_measures : Stands (z_place f p n) measures b
  at_measures = back (pairs_place f p) (16 * n) (run 8 (coordinates ps)) measures b length_pairs at_doubles

  length-z : length (laid n z) ≡ measure_size z n
  length-z = length_laid n z a.of_kind.covers_z

  at_z : Stands (z_place f p n) (laid n z) b
  at_z = front (z_place f p n) _ (laid n z) (laid n m) b length-z at_measures

  at_m : Stands m_place (laid n m) b
  at_m = back (z_place f p n) _ (laid n z) (laid n m) b length-z at_measures

  -- ---- the tables

  at_pairs : Stands (pairs_place f p) (run 8 (coordinates ps)) b
  at_pairs = front (pairs_place f p) (16 * n) (run 8 (coordinates ps)) measures b length_pairs at_doubles

  pub x_are : x_in f b ≡ xs_of ps
  x_are = sym (x_here f b p n a.parts_are a.points_are) ∙ xs_back b ps (pairs_place f p) a.held.points_held at_pairs

  pub y_are : y_in f b ≡ ys_of ps
  y_are = sym (y_here f b p n a.parts_are a.points_are) ∙ ys_back b ps (pairs_place f p) a.held.points_held at_pairs

  pub z_are : z_in f (there z) b ≡ values_of z
  z_are = sym (z_here f b p n a.parts_are a.points_are (there z)) ∙ values-back n (z_place f p n) b z a.of_kind.covers_z a.held.z_held at_z

  pub m_are : m_in f (there z) (there m) b ≡ map raised (values_of m)
  m_are =
      sym (m_here f b p n a.parts_are a.points_are (there z) (there m))
      ∙ (map-cond raised (there m) _ ∙ ap (map raised) (values-back n m_place b m a.of_kind.covers_m a.held.m_held at_m))

  -- ---- the tests

  z-start : z_place f p n ≡ z_at f b
  z-start = RestLaws.z-place f b n a.points_are p a.parts_are

  m-start : m_place ≡ m_at f (there z) b
  m-start = RestLaws.m-place f b n a.points_are (there z) (z_place f p n) z-start

  rest_pass : Passes (rest_tests f (there z) (there m) b)
  rest_pass =
      RestLaws.rest_pass f (there z) (there m) b a.pairs_pass
      (rw (← z-start, ← a.points_are) (measure_pass (there z) n (z_place f p n) b (omega (arith, a.size))))
      (rw (← m-start, ← a.points_are) (measure_pass (there m) n m_place b (omega (arith, a.size))))

  -- ---- the body

  box-is : (i : ℕ) → i < 4 → le_f64 (8 * i) b ≡ value (get_or (box_doubles box) i 0)
  box-is i h = rw zero-add at (double-at 0 (box_doubles box) b a.held.box_held a.box_stands i h)

  body_is : body_in f (there z) (there m) b ≡ body_as p box ps z m
  body_is =
      sym (body_here f b p n a.parts_are a.points_are (there z) (there m))
      ∙ rw (
        box-is 0 (lit< tt),
        box-is 1 (lit< tt),
        box-is 2 (lit< tt),
        box-is 3 (lit< tt),
        range_back n _ b z a.held.z_held at_z,
        range_back n _ b m a.held.m_held at_m,
      )

  module _ (counts xs ys zs ms : ℕ) (room : RoomFor p n z m counts xs ys zs ms) where
    fits : has_room (there z) (there m) p n counts xs ys zs ms ≡ true
    fits = rw (le-leb p counts room.0, le-leb n xs room.1, le-leb n ys room.2, store_fits (there z) n zs room.3, store_fits (there m) n ms room.4)

    pub body-said : body_of f (there z) (there m) b counts xs ys zs ms ≡ gives (body_as p box ps z m)
    body-said =
        sym (whole-body f (there z) (there m) b counts xs ys zs ms a.counts_pass p n a.parts_are a.points_are rest_pass fits)
        ∙ ap gives body_is
