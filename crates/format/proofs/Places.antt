-- Bytes that stand at a place of other bytes: laid one behind the other, and a number read and written there, at every width.
use mathlib.Core.Path.{◌≡◌, sym, ap, ◌∙◌}
use mathlib.Core.List.{List, ◌++◌, append-nil, append_assoc}
use Prim.Native.Nat.{ℕ, ◌+◌, ◌*◌, ◌^◌, ◌≤◌, ◌<◌}
use native.Mathlib.Omega.{arith}
use lib.ListN.{length, take, drop, length-append, length-drop, take-append-drop}
use lib.Seq.{take_at, drop_at, drop-length, drop-drop}
use Rattle.format.specs.Bytes.{le, be, le_bytes, be_bytes, field}
use Rattle.format.proofs.ByteLaws.{AllBytes, length_le_bytes, length-be_bytes, length-field, le_le_bytes, be-be_bytes, le_bytes_field, be_bytes-field}

pub record Stands (at : ℕ) (bytes s : List ℕ) : Type 0 where
  pub here : bytes ++ drop (at + length bytes) s ≡ drop at s

-- ---- one behind the other

pub in_front : (a t : List ℕ) → Stands 0 a (a ++ t)
in_front a t = record { here = ap (λ (l : List ℕ). a ++ l) (drop_at a t (0 + length a) (omega arith)) }

pub all_behind : (at : ℕ) (a s : List ℕ) → drop at s ≡ a → Stands at a s
all_behind at a s e = record { here = rw (← drop-drop (length a) at s, e, drop-length a) (append-nil a) }

module _ (at n : ℕ) (a b s : List ℕ) (e : length a ≡ n) where
  pub join : Stands at a s → Stands (at + n) b s → Stands at (a ++ b) s
  join p q =
      let places : at + length (a ++ b) ≡ at + n + length b = omega (arith, length-append a b) in
      let first : a ++ drop (at + n) s ≡ drop at s = rw (← e) p.here in
      record { here = rw (places, append_assoc, q.here) first }

  module _ (p : Stands at (a ++ b) s) where
    rest : List ℕ
    rest = drop (at + length (a ++ b)) s

    whole : a ++ (b ++ rest) ≡ drop at s
    unfolding rest
    whole = sym (append_assoc a b rest) ∙ p.here

    behind : b ++ rest ≡ drop (at + n) s
    behind = sym (drop_at a (b ++ rest) n e) ∙ (ap (drop n) whole ∙ drop-drop n at s)

    pub front : Stands at a s
    front = record { here = rw (e, ← behind) whole }

    pub back : Stands (at + n) b s
    unfolding rest
    back =
        let places : at + length (a ++ b) ≡ at + n + length b = omega (arith, length-append a b) in
        record { here = rw places at behind }

-- it lies within
pub stands_within : (at : ℕ) (a s : List ℕ) → Stands at a s → 1 ≤ length a → at + length a ≤ length s
stands_within at a s p h =
    omega (arith, ap length p.here, length-append a (drop (at + length a) s), length-drop (at + length a) s, length-drop at s)

-- ---- a number

pub field_stands : (at : ℕ) (a s : List ℕ) (n : ℕ) → length a ≡ n → Stands at a s → field n at s ≡ a
unfolding field
field_stands at a s n e p = ap (take n) (sym p.here) ∙ take_at a (drop (at + length a) s) n e

pub stands_field : (at n : ℕ) (s : List ℕ) → at + n ≤ length s → Stands at (field n at s) s
unfolding field
stands_field at n s h =
    let e : length (field n at s) ≡ n = length-field n at s h in
    record { here = rw (e, ← drop-drop n at s) (take-append-drop n (drop at s)) }

pub le-back : (w d at : ℕ) (s : List ℕ) → d < 2 ^ (8 * w) → Stands at (le_bytes w d) s → le (field w at s) ≡ d
le-back w d at s h p = ap le (field_stands at (le_bytes w d) s w (length_le_bytes w d) p) ∙ le_le_bytes w d h

pub be-back : (w d at : ℕ) (s : List ℕ) → d < 2 ^ (8 * w) → Stands at (be_bytes w d) s → be (field w at s) ≡ d
be-back w d at s h p = ap be (field_stands at (be_bytes w d) s w (length-be_bytes w d) p) ∙ be-be_bytes w d h

module _ (w at : ℕ) (s : List ℕ) (b : AllBytes s) (h : at + w ≤ length s) where
  pub le_stands : Stands at (le_bytes w (le (field w at s))) s
  le_stands = rw (le_bytes_field w at s b h) (stands_field at w s h)

  pub be_stands : Stands at (be_bytes w (be (field w at s))) s
  be_stands = rw (be_bytes-field w at s b h) (stands_field at w s h)
