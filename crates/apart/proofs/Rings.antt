-- Rings: a run is answered as the same run taken apart, and closing leaves the same points.
use mathlib.Core.Path.{◌≡◌, refl, sym, ap, ap₂, ◌∙◌}
use mathlib.Core.Bool.{Bool, true, false, cond, ◌&&◌}
use mathlib.Core.List.{List, [], ◌∷◌}
use Prim.Native.Nat.{ℕ, ◌*◌, ◌%◌, ◌≤◌}
use native.Mathlib.Omega.{arith}
use lib.Dec.{leb, eqb}
use lib.Ieee.{Float}
use lib.ListN.{length, take, length-map}
use lib.Seq.{sets, take_all}
use borrow.Author.Tests.{eq-eqb, eqb-true, eqb-false, le-leb, lt-leb}
use Rattle.format.specs.Said.{Said, gives, room, tables, unless_refused}
use Rattle.rings.specs.Answers.{run_of, of_run, said_closing, count_then, closing_of}
use Rattle.rings.specs.Points.{Point, points, x_of, y_of, closed, appended, turning}
use Rattle.rings.proofs.Equations.{closed-of, turning-of, closing-of}
use Rattle.rings.proofs.PointLaws.{points_none, points_end, points_one_more}
use Rattle.apart.specs.Apart.{Rings}
use Rattle.apart.specs.OldRings as Old
use Rattle.apart.specs.Pairs.{all_x, all_y, together}
use Rattle.apart.proofs.Lists.{length-x, length-y, length-together, take_apart, take-together, sets_apart, sets-together}
use Rattle.apart.proofs.Tests.{Halves, apart_halves, together_halves, unless_one, unless_two}

-- ---- points

points_apart : (xy : List Float) → Old.points xy ≡ points (all_x xy) (all_y xy)
points_apart [] = sym (points_none [])
points_apart (x ∷ []) = sym (points_end x [])
points_apart (x ∷ y ∷ xy) = ap (◌∷◌ (record { x = x; y = y })) (points_apart xy) ∙ sym (points_one_more x (all_x xy) y (all_y xy))

points-together : (xs ys : List Float) → Old.points (together xs ys) ≡ points xs ys
points-together [] ys = sym (points_none ys)
points-together (x ∷ xs) [] = sym (points_end x xs)
points-together (x ∷ xs) (y ∷ ys) = ap (◌∷◌ (record { x = x; y = y })) (points-together xs ys) ∙ sym (points_one_more x xs y ys)

-- and back, coordinate by coordinate
flat-x : (ps : List Point) → all_x (Old.flat ps) ≡ x_of ps
flat-x [] = refl
flat-x (p ∷ ps) = ap (◌∷◌ p.x) (flat-x ps)

flat-y : (ps : List Point) → all_y (Old.flat ps) ≡ y_of ps
flat-y [] = refl
flat-y (p ∷ ps) = ap (◌∷◌ p.y) (flat-y ps)

flat-together : (ps : List Point) → together (x_of ps) (y_of ps) ≡ Old.flat ps
flat-together [] = refl
flat-together (p ∷ ps) = ap (λ (l : List Float). p.x ∷ p.y ∷ l) (flat-together ps)

-- ---- a run that is all of what is lent

module _ {A : Type 0} (what : List Point → A) where
  -- an odd number of coordinates is a run past the store of y
  even_test : (xy : List Float) → eqb (length xy % 2) 0 ≡ leb (length (all_x xy)) (length (all_y xy))
  even_test xy = by (eqb (length xy % 2) 0) refl
    where
      by : (t : Bool) → eqb (length xy % 2) 0 ≡ t → t ≡ leb (length (all_x xy)) (length (all_y xy))
      by true e =
          let h = eqb-true (length xy % 2) 0 e in
          sym (le-leb (length (all_x xy)) (length (all_y xy)) (omega (arith, length-x xy, length-y xy)))
      by false e =
          let h = eqb-false (length xy % 2) 0 e in
          sym (lt-leb (length (all_x xy)) (length (all_y xy)) (omega (arith, length-x xy, length-y xy)))

  run_apart : (xy : List Float) → Old.of_run what xy ≡ of_run what (all_x xy) (all_y xy) (length (all_x xy))
  run_apart xy =
      let n = length (all_x xy) in
      let same : Old.points xy ≡ run_of (all_x xy) (all_y xy) n = points_apart xy ∙ sym (ap₂ points (take_all n (all_x xy) (omega arith)) (take_all n (all_y xy) (omega (arith, length-x xy, length-y xy)))) in
      ap₂ (λ (t : Bool) (ps : List Point). cond t (gives (what ps)) tables) (even_test xy) same
      ∙ sym (ap (λ (t : Bool). cond t (cond (leb n (length (all_y xy))) (gives (what (run_of (all_x xy) (all_y xy) n))) tables) tables) (le-leb n n (omega arith)))

  run_together : (xs ys : List Float) (n : ℕ) → n ≤ length xs → n ≤ length ys → of_run what xs ys n ≡ Old.of_run what (together (take n xs) (take n ys))
  run_together xs ys n h g =
      let l : length (together (take n xs) (take n ys)) % 2 ≡ 0 = omega (arith, length-together (take n xs) (take n ys)) in
      rw (le-leb n (length xs) h, le-leb n (length ys) g, eq-eqb (length (together (take n xs) (take n ys)) % 2) 0 l, points-together (take n xs) (take n ys))

-- ---- closing

cond_both : {A : Type 0} (a b : Bool) (s t : A) → cond (a && b) s t ≡ cond a (cond b s t) t
cond_both true b s t = refl
cond_both false b s t = refl

-- the tests of a run of 2n coordinates in a store, of whose entries the others have half each
tests_same : (n c xy x y : ℕ) → Halves xy x y → (s t u : Said ℕ) → cond (leb (2 * n) xy) (cond (eqb (2 * n % 2) 0) (cond (leb (2 * c) xy) s t) u) u ≡ cond (leb n x) (cond (leb n y) (cond (leb c x && leb c y) s t) u) u
tests_same n c xy x y h s t u =
    rw (eq-eqb (2 * n % 2) 0 (omega arith), h n, h c) (cond_both (leb n x) (leb n y) (cond (leb c x && leb c y) s t) u)

module _ (xy xs ys : List Float) (n : ℕ) (h : Halves (length xy) (length xs) (length ys)) (e : Old.front xy (2 * n) ≡ run_of xs ys n) where
  closing_same : Old.closing_of xy (2 * n) ≡ closing_of xs ys n
  closing_same =
      let c = count_then (run_of xs ys n) in
      ap (λ (ps : List Point). cond (leb (2 * n) (length xy)) (cond (eqb (2 * n % 2) 0) (cond (leb (2 * count_then ps) (length xy)) (gives (count_then ps)) (room 0 (count_then ps))) tables) tables) e
      ∙ (tests_same n c (length xy) (length xs) (length ys) h (gives c) (room 0 c) tables ∙ sym (closing-of xs ys n))

front_apart : (xy : List Float) (n : ℕ) → Old.front xy (2 * n) ≡ run_of (all_x xy) (all_y xy) n
front_apart xy n =
    let t = take_apart n xy in
    points_apart (take (2 * n) xy) ∙ ap₂ points t.0 t.1

front-together : (xs ys : List Float) (n : ℕ) → Old.front (together xs ys) (2 * n) ≡ run_of xs ys n
front-together xs ys n = ap Old.points (sym (take-together n xs ys)) ∙ points-together (take n xs) (take n ys)

-- ---- the theorems

pub rings : Rings
rings =
    record {
      closed_apart = λ xy. run_apart closed xy ∙ sym (closed-of (all_x xy) (all_y xy) (length (all_x xy)));
      closed_together = λ xs ys n h g. closed-of xs ys n ∙ run_together closed xs ys n h g;
      turning_apart = λ xy. run_apart turning xy ∙ sym (turning-of (all_x xy) (all_y xy) (length (all_x xy)));
      turning_together = λ xs ys n h g. turning-of xs ys n ∙ run_together turning xs ys n h g;
      closing_apart =
          λ xy n r xy' h.
          let e = front_apart xy n in
          let vs : List Float = Old.flat (appended (Old.front xy (2 * n))) in
          let left : xy' ≡ unless_refused (said_closing r) xy (sets xy (2 * n) vs) = h.left ∙ ap (λ (said : Said ℕ). unless_refused said xy (sets xy (2 * n) vs)) (sym h.answered) in
          record {
            answered = h.answered ∙ closing_same xy (all_x xy) (all_y xy) n (apart_halves xy) e;
            x_left = ap all_x left ∙ unless_one (said_closing r) all_x xy (sets xy (2 * n) vs) _ ((sets_apart n xy vs).0 ∙ ap (sets (all_x xy) n) (flat-x (appended (Old.front xy (2 * n))) ∙ ap (λ (ps : List Point). x_of (appended ps)) e));
            y_left = ap all_y left ∙ unless_one (said_closing r) all_y xy (sets xy (2 * n) vs) _ ((sets_apart n xy vs).1 ∙ ap (sets (all_y xy) n) (flat-y (appended (Old.front xy (2 * n))) ∙ ap (λ (ps : List Point). y_of (appended ps)) e));
          };
      closing_together =
          λ xs ys n r xs' ys' h.
          let e = front-together xs ys n in
          let ps : List Point = appended (run_of xs ys n) in
          let same = closing_same (together xs ys) xs ys n (together_halves xs ys) e in
          let answered : said_closing r ≡ Old.closing_of (together xs ys) (2 * n) = h.answered ∙ sym same in
          record {
            answered = answered;
            left =
                ap₂ together h.x_left h.y_left
                ∙ (unless_two (said_closing r) together xs (sets xs n (x_of ps)) ys (sets ys n (y_of ps)) _
                (sets-together n xs ys (x_of ps) (y_of ps) (length-map ps (λ (p : Point). p.x) ∙ sym (length-map ps (λ (p : Point). p.y)))
                ∙ ap (sets (together xs ys) (2 * n)) (flat-together ps ∙ ap (λ (qs : List Point). Old.flat (appended qs)) (sym e)))
                ∙ ap (λ (said : Said ℕ). unless_refused said (together xs ys) (sets (together xs ys) (2 * n) (Old.flat (appended (Old.front (together xs ys) (2 * n)))))) answered);
          };
    }
