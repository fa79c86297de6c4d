-- P14 and P15 of the bytes, said of the ends of the parts and of the parts themselves.
use mathlib.Core.Path.{◌≡◌, refl, sym, ap, ap₂, ◌∙◌}
use mathlib.Core.Bool.{true}
use mathlib.Core.List.{List, [], ◌∷◌, ◌++◌}
use Prim.Native.Nat.{ℕ, zero, suc, ◌+◌, ◌*◌, ◌-◌, ◌≤◌, ◌<◌}
use native.Mathlib.Omega.{arith}
use lib.Dec.{leb}
use lib.ListN.{length, take, drop, get_or, length-drop}
use lib.Seq.{length-take-le, drop-drop}
use borrow.Author.Tests.{le-leb, leb-true}
use Rattle.format.specs.declared.kinds.Kind.{Kind}
use Rattle.format.specs.Shapes.{Point}
use Rattle.format.specs.WellFormed.{has_rings, least_points, same_place, closed_ring, PartsFine}
use Rattle.format.proofs.OrderLaws.{both_true}
use Rattle.format.proofs.Runs.{numbers, numbers-zero, numbers-suc, number-at}
use Rattle.format.proofs.Cuts.{cut, cut_nil, cut_cons, Rise, rise_le}
use Rattle.format.proofs.Pairs.{nowhere, pairs, pair_at}
use Rattle.format.proofs.Rings.{least_some, part_closed}
use Rattle.rules.specs.Rules.{little_at, end_of, parts_long, ring_closed, rings_closed, x_of, y_of}

-- where each of r parts ends; at `at` stands the start of the second, and the last one ends at n
unfoldable pub ends_at : ℕ → ℕ → ℕ → List ℕ → List ℕ
ends_at zero at n l = []
ends_at (suc r) at n l = end_of r at l n ∷ ends_at r (at + 4) n l

pub length_ends_at : (r at n : ℕ) (l : List ℕ) → length (ends_at r at n l) ≡ r
unfolding ends_at
length_ends_at zero at n l = refl
length_ends_at (suc r) at n l = ap suc (length_ends_at r (at + 4) n l)

-- the starts, and the end behind them
pub starts-at : (r at n : ℕ) (l : List ℕ) → 1 ≤ r → numbers 4 r at l ++ (n ∷ []) ≡ little_at at l ∷ ends_at r (at + 4) n l
unfolding ends_at
starts-at zero at n l h = absurd (omega arith)
starts-at (suc zero) at n l h = rw (numbers-suc 4 0 at l, numbers-zero 4 (at + 4) l)
starts-at (suc (suc r)) at n l h = rw (numbers-suc 4 (suc r) at l) (ap (◌∷◌ (little_at at l)) (starts-at (suc r) (at + 4) n l (omega arith)))

-- ---- P14

pub rise_of : (least r at cur n : ℕ) (l : List ℕ) → 1 ≤ r → parts_long least r at cur n l ≡ true → Rise least cur (ends_at r at n l) n
unfolding parts_long ends_at
rise_of least zero at cur n l h e = absurd (omega arith)
rise_of least (suc zero) at cur n l h e = (leb-true _ _ (both_true (leb (cur + least) n) true e).0, refl)
rise_of least (suc (suc r)) at cur n l h e =
    let p = both_true (leb (cur + least) (little_at at l)) (parts_long least (suc r) (at + 4) (little_at at l) n l) e in
    (leb-true _ _ p.0, rise_of least (suc r) (at + 4) (little_at at l) n l (omega arith) p.1)

pub of_rise : (least r at cur n : ℕ) (l : List ℕ) → Rise least cur (ends_at r at n l) n → parts_long least r at cur n l ≡ true
unfolding parts_long ends_at
of_rise least zero at cur n l h = refl
of_rise least (suc r) at cur n l h = rw (le-leb (cur + least) (end_of r at l n) h.0) (of_rise least r (at + 4) (end_of r at l n) n l h.1)

-- ---- P15

-- point i of those that stand at pts, by their coordinates
module _ (size pts n : ℕ) (l : List ℕ) (h : 2 * n ≤ size) (i : ℕ) (j : i < n) where
  pub at_point : get_or (pairs n (numbers 8 size pts l)) i nowhere ≡ record { x = x_of pts i l; y = y_of pts i l }
  at_point =
      let a : pts + 8 * (2 * i) ≡ pts + 16 * i = omega arith in
      let b : pts + 8 * (2 * i + 1) ≡ pts + 16 * i + 8 = omega arith in
      pair_at n (numbers 8 size pts l) i nowhere j
      ∙ rw (number-at 8 size pts l (2 * i) (omega arith), number-at 8 size pts l (2 * i + 1) (omega arith), a, b)

-- ps are the points that stand at pts
module _ (k : Kind) (ps : List Point) (pts n : ℕ) (l : List ℕ) (size : length ps ≡ n)
    (points : (i : ℕ) → i < n → get_or ps i nowhere ≡ record { x = x_of pts i l; y = y_of pts i l }) where
  ring_same : (cur e : ℕ) → cur < e → e ≤ n → ring_closed pts cur e l ≡ closed_ring (take (e - cur) (drop cur ps))
  ring_same cur e h j =
      sym (part_closed ps cur e h (omega arith) ∙ ap₂ same_place (points cur (omega arith)) (points (e - 1) (omega arith)))

  on : (cur e : ℕ) → cur ≤ e → drop (e - cur) (drop cur ps) ≡ drop e ps
  on cur e h = let q : cur + (e - cur) ≡ e = omega arith in rw (drop-drop, q)

  pub parts-fine : (r at cur : ℕ) → Rise (least_points k) cur (ends_at r at n l) n → (has_rings k ≡ true → rings_closed pts r at cur n l ≡ true)
      → PartsFine k (cut cur (ends_at r at n l) (drop cur ps))
  unfolding ends_at rings_closed
  parts-fine zero at cur h c = rw (cut_nil cur (drop cur ps)) tt
  parts-fine (suc r) at cur h c =
      let e = end_of r at l n in
      let j : e ≤ n = rise_le (least_points k) e (ends_at r (at + 4) n l) n h.1 in
      let both : has_rings k ≡ true → (ring_closed pts cur e l ≡ true) × (rings_closed pts r (at + 4) e n l ≡ true)
      = λ q. both_true (ring_closed pts cur e l) (rings_closed pts r (at + 4) e n l) (c q) in
      let lg : length (take (e - cur) (drop cur ps)) ≡ e - cur = length-take-le (e - cur) (drop cur ps) (rw length-drop (omega arith)) in
      rw (cut_cons cur e (ends_at r (at + 4) n l) (drop cur ps), on cur e (omega arith))
      (omega arith, (λ q. sym (ring_same cur e (omega (arith, least_some k)) j) ∙ (both q).0), parts-fine r (at + 4) e h.1 (λ q. (both q).1))

  pub parts-closed : has_rings k ≡ true → (r at cur : ℕ) → Rise (least_points k) cur (ends_at r at n l) n → PartsFine k (cut cur (ends_at r at n l) (drop cur ps))
      → rings_closed pts r at cur n l ≡ true
  unfolding ends_at rings_closed
  parts-closed q zero at cur h f = refl
  parts-closed q (suc r) at cur h f =
      let e = end_of r at l n in
      let j : e ≤ n = rise_le (least_points k) e (ends_at r (at + 4) n l) n h.1 in
      let g : PartsFine k (take (e - cur) (drop cur ps) ∷ cut e (ends_at r (at + 4) n l) (drop e ps))
      = rw (cut_cons cur e (ends_at r (at + 4) n l) (drop cur ps), on cur e (omega arith)) at f in
      rw (ring_same cur e (omega (arith, least_some k)) j, g.1 q) (parts-closed q r (at + 4) e h.1 g.2)
