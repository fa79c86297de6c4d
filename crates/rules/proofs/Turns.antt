-- One turn of each rule that goes over doubles, parts or rings, in a loop's terms: what is left before the turn is the turn and what is left after it.
use mathlib.Core.Path.{◌≡◌, refl}
use mathlib.Core.Bool.{true, false}
use mathlib.Core.List.{List}
use Prim.Native.Nat.{ℕ, zero, suc, ◌+◌, ◌-◌, ◌≤◌, ◌<◌}
use native.Mathlib.Nat.{le_refl}
use native.Mathlib.Omega.{arith}
use lib.Dec.{leb}
use borrow.Author.Tests.{le-leb, lt-leb, leb-true}
use Rattle.format.specs.Numbers.{finite}
use Rattle.format.proofs.OrderLaws.{both_true}
use Rattle.rules.specs.Rules.{little_at, double_at, finites, end_of, parts_long, ring_closed, rings_closed}

-- ---- doubles

module _ (s : List ℕ) (at : ℕ) where
  pub finites_go : (r : ℕ) → 0 < r → finite (double_at at s) ≡ true → finites (r - 1) (at + 8) s ≡ finites r at s
  unfolding finites
  finites_go zero h e = absurd (omega arith)
  finites_go (suc r) h e =
      let d : suc r - 1 ≡ r = omega arith in
      rw (d, e)

  pub finites_no : (r : ℕ) → 0 < r → finite (double_at at s) ≡ false → finites r at s ≡ false
  unfolding finites
  finites_no zero h e = absurd (omega arith)
  finites_no (suc r) h e = rw e

  pub finites_done : (r : ℕ) → r ≤ 0 → finites r at s ≡ true
  unfolding finites
  finites_done zero h = refl
  finites_done (suc r) h = absurd (omega arith)

-- ---- parts

module _ (s : List ℕ) (n least at cur e : ℕ) where
  pub parts_go : (r : ℕ) → 0 < r → e ≡ end_of (r - 1) at s n → cur + least ≤ e → parts_long least (r - 1) (at + 4) e n s ≡ parts_long least r at cur n s
  unfolding parts_long
  parts_go zero h q l = absurd (omega arith)
  parts_go (suc r) h q l =
      let d : suc r - 1 ≡ r = omega arith in
      let q' : e ≡ end_of r at s n = rw d at q in
      rw (d, ← q', le-leb (cur + least) e l)

  pub parts_no : (r : ℕ) → 0 < r → e ≡ end_of (r - 1) at s n → e < cur + least → parts_long least r at cur n s ≡ false
  unfolding parts_long
  parts_no zero h q l = absurd (omega arith)
  parts_no (suc r) h q l =
      let d : suc r - 1 ≡ r = omega arith in
      let q' : e ≡ end_of r at s n = rw d at q in
      rw (← q', lt-leb (cur + least) e l)

pub parts_done : (s : List ℕ) (n least at cur r : ℕ) → r ≤ 0 → parts_long least r at cur n s ≡ true
unfolding parts_long
parts_done s n least at cur zero h = refl
parts_done s n least at cur (suc r) h = absurd (omega arith)

-- ---- rings, whose parts are long enough: each ends behind its start and within the points

pub record Part (s : List ℕ) (n least at cur r e : ℕ) : Type 0 where
  pub long : cur + least ≤ e
  pub within : e ≤ n
  pub others : parts_long least (r - 1) (at + 4) e n s ≡ true

below : (s : List ℕ) (n least r at cur : ℕ) → parts_long least (suc r) at cur n s ≡ true → cur ≤ n
unfolding parts_long
below s n least zero at cur h = omega (arith, leb-true (cur + least) n (both_true (leb (cur + least) n) _ h).0)
below s n least (suc r) at cur h =
    let q = both_true (leb (cur + least) (little_at at s)) _ h in
    omega (arith, leb-true (cur + least) (little_at at s) q.0, below s n least r (at + 4) (little_at at s) q.1)

pub part : (s : List ℕ) (n least at cur r e : ℕ) → 0 < r → e ≡ end_of (r - 1) at s n → parts_long least r at cur n s ≡ true → Part s n least at cur r e
unfolding parts_long
part s n least at cur zero e h q p = absurd (omega arith)
part s n least at cur (suc r) e h q p =
    let d : suc r - 1 ≡ r = omega arith in
    let q' : e ≡ end_of r at s n = rw d at q in
    let t = both_true (leb (cur + least) (end_of r at s n)) _ p in
    record { long = rw q' (leb-true _ _ t.0); within = rw q' (in_points r t.1); others = rw (d, q') t.1 }
  where
    in_points : (r : ℕ) → parts_long least r (at + 4) (end_of r at s n) n s ≡ true → end_of r at s n ≤ n
    in_points zero u = le_refl n
    in_points (suc r) u = below s n least r (at + 4) (little_at at s) u

module _ (s : List ℕ) (n pts at cur e : ℕ) where
  pub rings_go : (r : ℕ) → 0 < r → e ≡ end_of (r - 1) at s n → ring_closed pts cur e s ≡ true → rings_closed pts (r - 1) (at + 4) e n s ≡ rings_closed pts r at cur n s
  unfolding rings_closed
  rings_go zero h q l = absurd (omega arith)
  rings_go (suc r) h q l =
      let d : suc r - 1 ≡ r = omega arith in
      let q' : e ≡ end_of r at s n = rw d at q in
      rw (d, ← q', l)

  pub rings_no : (r : ℕ) → 0 < r → e ≡ end_of (r - 1) at s n → ring_closed pts cur e s ≡ false → rings_closed pts r at cur n s ≡ false
  unfolding rings_closed
  rings_no zero h q l = absurd (omega arith)
  rings_no (suc r) h q l =
      let d : suc r - 1 ≡ r = omega arith in
      let q' : e ≡ end_of r at s n = rw d at q in
      rw (← q', l)

pub rings_done : (s : List ℕ) (n pts at cur r : ℕ) → r ≤ 0 → rings_closed pts r at cur n s ≡ true
unfolding rings_closed
rings_done s n pts at cur zero h = refl
rings_done s n pts at cur (suc r) h = absurd (omega arith)
