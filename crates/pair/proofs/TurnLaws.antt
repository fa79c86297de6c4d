-- The turns of the loops over doubles, parts and rings, by the index: item i of n, of which the next stands 8 or 4 bytes on.
use mathlib.Core.Path.{◌≡◌}
use mathlib.Core.Bool.{true, false}
use mathlib.Core.List.{List}
use Prim.Native.Nat.{ℕ, ◌+◌, ◌*◌, ◌-◌, ◌≤◌, ◌<◌}
use native.Mathlib.Omega.{arith}
use Rattle.format.specs.Numbers.{finite}
use Rattle.rules.specs.Rules.{double_at, finites, end_of, parts_long, ring_closed, rings_closed}
use Rattle.rules.proofs.Turns as Turns
use Rattle.rules.proofs.Turns.{Part}

-- ---- doubles

module _ (s : List ℕ) (at n i : ℕ) where
  pub finites_go : i < n → finite (double_at (at + 8 * i) s) ≡ true → finites (n - (i + 1)) (at + 8 * (i + 1)) s ≡ finites (n - i) (at + 8 * i) s
  finites_go h e =
      let m : n - (i + 1) ≡ n - i - 1 = omega arith in
      let k : at + 8 * (i + 1) ≡ at + 8 * i + 8 = omega arith in
      rw (m, k) (Turns.finites_go s (at + 8 * i) (n - i) (omega arith) e)

  pub finites_no : i < n → finite (double_at (at + 8 * i) s) ≡ false → finites (n - i) (at + 8 * i) s ≡ false
  finites_no h e = Turns.finites_no s (at + 8 * i) (n - i) (omega arith) e

  pub finites_done : n ≤ i → finites (n - i) (at + 8 * i) s ≡ true
  finites_done h = Turns.finites_done s (at + 8 * i) (n - i) (omega arith)

-- ---- parts, of which part i starts at point cur and ends at e

module _ (s : List ℕ) (n p i cur e : ℕ) (h : i < p) (is : e ≡ end_of (p - (i + 1)) (56 + 4 * i) s n) where
  fewer : p - (i + 1) ≡ p - i - 1
  fewer = omega arith

  on : 56 + 4 * (i + 1) ≡ 56 + 4 * i + 4
  on = omega arith

  ends : e ≡ end_of (p - i - 1) (56 + 4 * i) s n
  ends = rw fewer at is

  module _ (least : ℕ) where
    pub parts_go : cur + least ≤ e → parts_long least (p - (i + 1)) (56 + 4 * (i + 1)) e n s ≡ parts_long least (p - i) (56 + 4 * i) cur n s
    parts_go l = rw (fewer, on) (Turns.parts_go s n least (56 + 4 * i) cur e (p - i) (omega arith) ends l)

    pub parts_no : e < cur + least → parts_long least (p - i) (56 + 4 * i) cur n s ≡ false
    parts_no l = Turns.parts_no s n least (56 + 4 * i) cur e (p - i) (omega arith) ends l

    -- a ring is a part that is long enough
    pub ring : parts_long least (p - i) (56 + 4 * i) cur n s ≡ true → Part s n least (56 + 4 * i) cur (p - i) e
    ring long = Turns.part s n least (56 + 4 * i) cur (p - i) e (omega arith) ends long

    pub others : parts_long least (p - i) (56 + 4 * i) cur n s ≡ true → parts_long least (p - (i + 1)) (56 + 4 * (i + 1)) e n s ≡ true
    others long = rw (fewer, on) (ring long).others

  module _ (pts : ℕ) where
    pub rings_go : ring_closed pts cur e s ≡ true → rings_closed pts (p - (i + 1)) (56 + 4 * (i + 1)) e n s ≡ rings_closed pts (p - i) (56 + 4 * i) cur n s
    rings_go l = rw (fewer, on) (Turns.rings_go s n pts (56 + 4 * i) cur e (p - i) (omega arith) ends l)

    pub rings_no : ring_closed pts cur e s ≡ false → rings_closed pts (p - i) (56 + 4 * i) cur n s ≡ false
    rings_no l = Turns.rings_no s n pts (56 + 4 * i) cur e (p - i) (omega arith) ends l

module _ (s : List ℕ) (n p i cur : ℕ) (h : p ≤ i) where
  pub parts_done : (least : ℕ) → parts_long least (p - i) (56 + 4 * i) cur n s ≡ true
  parts_done least = Turns.parts_done s n least (56 + 4 * i) cur (p - i) (omega arith)

  pub rings_done : (pts : ℕ) → rings_closed pts (p - i) (56 + 4 * i) cur n s ≡ true
  rings_done pts = Turns.rings_done s n pts (56 + 4 * i) cur (p - i) (omega arith)
