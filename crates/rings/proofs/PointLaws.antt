-- Laws of runs of points, as code meets them: by the places of the coordinates in the two stores.
use mathlib.Core.Path.{◌≡◌, refl, ap}
use mathlib.Core.Bool.{true, false}
use mathlib.Core.List.{List, [], ◌∷◌}
use Prim.Native.Nat.{ℕ, zero, suc, ◌+◌, ◌-◌, ◌≤◌, ◌<◌}
use native.Mathlib.Omega.{arith}
use lib.Ieee.{Float, nan, binary64, add, of_bits, of_int}
use lib.ListN.{length, get_or, take, drop}
use lib.Seq.{drop-cons}
use Rattle.rings.specs.Answers.{run_of}
use Rattle.rings.specs.Points.{Point, points, equal, last_from, closed, appended, number, product, products, plus}

-- a point and the others, as far as both stores go
pub points_none : (ys : List Float) → points [] ys ≡ []
unfolding points
points_none ys = refl

pub points_end : (x : Float) (xs : List Float) → points (x ∷ xs) [] ≡ []
unfolding points
points_end x xs = refl

pub points_one_more : (x : Float) (xs : List Float) (y : Float) (ys : List Float) → points (x ∷ xs) (y ∷ ys) ≡ record { x = x; y = y } ∷ points xs ys
unfolding points
points_one_more x xs y ys = refl

-- point i, and k points from point i on
abbrev pub point_at : List Float → List Float → ℕ → Point
point_at xs ys i = record { x = get_or xs i nan; y = get_or ys i nan }

abbrev pub points_from : List Float → List Float → ℕ → ℕ → List Point
points_from xs ys i zero = []
points_from xs ys i (suc k) = point_at xs ys i ∷ points_from xs ys (suc i) k

module _ (xs ys : List Float) where
  -- ---- a run that lies in both stores is its points, place by place

  points-from : (i k : ℕ) → i + k ≤ length xs → i + k ≤ length ys → points (take k (drop i xs)) (take k (drop i ys)) ≡ points_from xs ys i k
  unfolding points
  points-from i zero h g = refl
  points-from i (suc k) h g =
      let x : i < length xs = omega arith in
      let y : i < length ys = omega arith in
      rw (drop-cons xs i nan, drop-cons ys i nan) (ap (◌∷◌ (point_at xs ys i)) (points-from (suc i) k (omega arith) (omega arith)))

  pub run_points : (n : ℕ) → n ≤ length xs → n ≤ length ys → run_of xs ys n ≡ points_from xs ys 0 n
  run_points n h g = points-from 0 n (omega arith) (omega arith)

  pub length_from : (i k : ℕ) → length (points_from xs ys i k) ≡ k
  length_from i zero = refl
  length_from i (suc k) = ap suc (length_from (suc i) k)

  -- ---- the first point and the last

  last_at : (i k l : ℕ) → i + k ≡ l → last_from (point_at xs ys i) (points_from xs ys (suc i) k) ≡ point_at xs ys l
  last_at i zero l e = ap (point_at xs ys) (omega arith)
  last_at i (suc k) l e = last_at (suc i) k l (omega arith)

  pub closed_at : (n : ℕ) → (n ≡ 0 → ⊥) → closed (points_from xs ys 0 n) ≡ equal (point_at xs ys 0) (point_at xs ys (n - 1))
  unfolding closed
  closed_at zero h = absurd (h refl)
  closed_at (suc k) h = ap (equal (point_at xs ys 0)) (last_at 0 k (suc k - 1) (omega arith))

  -- ---- what closing appends

  pub appends_first : (n : ℕ) → (n ≡ 0 → ⊥) → closed (points_from xs ys 0 n) ≡ false → appended (points_from xs ys 0 n) ≡ point_at xs ys 0 ∷ []
  unfolding appended
  appends_first zero h e = absurd (h refl)
  appends_first (suc k) h e = rw e

  -- ---- a turn of the loop that sums

  pub sum_turn : (n i : ℕ) (sum : Float) → 1 ≤ i → i < n → plus (add binary64 sum (product (point_at xs ys (i - 1)) (point_at xs ys i))) (products (points_from xs ys (i + 1 - 1) (n - (i + 1 - 1)))) ≡ plus sum (products (points_from xs ys (i - 1) (n - (i - 1))))
  unfolding products
  sum_turn n zero sum h g = absurd (omega arith)
  sum_turn n (suc k) sum h g =
      let this : suc k - 1 ≡ k = omega arith in
      let next : suc k + 1 - 1 ≡ suc k = omega arith in
      let left : n - suc k ≡ suc (n - (k + 2)) = omega arith in
      let left' : n - k ≡ suc (suc (n - (k + 2))) = omega arith in
      rw (this, next, left, left')

  no_neighbours : (i k : ℕ) → k ≤ 1 → products (points_from xs ys i k) ≡ []
  unfolding products
  no_neighbours i zero h = refl
  no_neighbours i (suc zero) h = refl
  no_neighbours i (suc (suc k)) h = absurd (omega arith)

  -- the last point has none
  pub sum_end : (n i : ℕ) (sum : Float) → n ≤ i → plus sum (products (points_from xs ys (i - 1) (n - (i - 1)))) ≡ sum
  sum_end n i sum h = ap (plus sum) (no_neighbours (i - 1) (n - (i - 1)) (omega arith))

pub appends_none : (ps : List Point) → closed ps ≡ true → appended ps ≡ []
unfolding appended
appends_none [] e = refl
appends_none (p ∷ ps) e = rw e

-- ---- the code's numbers

pub two-bits : of_bits binary64 0x4000_0000_0000_0000 ≡ number 2
unfolding of_bits of_int
two-bits = refl
