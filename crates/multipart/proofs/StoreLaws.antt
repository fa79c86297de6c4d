-- Laws of storing: one turn of each loop that stores, and a part of a store that has come back.
use mathlib.Core.Path.{◌≡◌, refl, sym, ◌∙◌}
use mathlib.Core.List.{List, ◌++◌, map}
use Prim.Native.Nat.{ℕ, ◌+◌, ◌*◌, ◌-◌, ◌^◌, ◌≤◌, ◌<◌}
use native.Mathlib.Nat.{zero-add}
use native.Mathlib.Numerals.{add-one}
use native.Mathlib.Omega.{arith}
use lib.Ieee.{binary64, of_bits, of_int}
use lib.IntN.{ℤ, negsuc}
use lib.ListN.{length, drop, set, length-map}
use lib.Seq.{sets, sets-eq}
use Rattle.multipart.specs.Body.{no_data}
use Rattle.multipart.specs.Parts.{count_of}
use Rattle.multipart.proofs.PartLaws.{differences_from, difference_at, one_more, no_more, length-differences_from}

-- ---- the counts of the parts from part i on, into a store from place i on

module _ (counts : List ℕ) (p i : ℕ) (n : ℤ) (s : List ℕ) where
  pub counts_turn : (k : ℕ) → i < p → k ≡ count_of (difference_at (p - i - 1) (40 + 4 * i) n s) → sets (set counts i k) (i + 1) (map count_of (differences_from (p - (i + 1)) (40 + 4 * (i + 1)) n s)) ≡ sets counts i (map count_of (differences_from (p - i) (40 + 4 * i) n s))
  counts_turn k h e =
      let left : p - (i + 1) ≡ p - i - 1 = omega arith in
      let start : 40 + 4 * (i + 1) ≡ 40 + 4 * i + 4 = omega arith in
      rw (left, start, add-one, one_more (p - i) (40 + 4 * i) n s (omega arith), e)

  pub counts_end : p ≤ i → sets counts i (map count_of (differences_from (p - i) (40 + 4 * i) n s)) ≡ counts
  counts_end h = rw (no_more (p - i) (40 + 4 * i) n s (omega arith))

pub length-counts : (p at : ℕ) (n : ℤ) (s : List ℕ) → length (map count_of (differences_from p at n s)) ≡ p
length-counts p at n s = rw (length-map, length-differences_from p at n s)

-- ---- the least m value

-- -10e38 is -10^39
pub no-data : no_data ≡ of_int binary64 (negsuc (10 ^ 39 - 1))
unfolding no_data of_bits of_int
no-data = refl

-- ---- the first k entries of a store were lent, and come back as other values

pub front-back : {A : Type 0} (vs out : List A) (k : ℕ) → length vs ≡ k → k ≤ length out → vs ++ drop k out ≡ sets out 0 vs
front-back vs out k e h = sym (sets-eq vs out 0 (omega (arith, e, h)) ∙ rw (zero-add, e))
