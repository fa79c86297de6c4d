-- One turn of each loop of the crate, in the loop's own terms: what is left to do before the turn is the turn and what is left after it.
use mathlib.Core.Path.{◌≡◌, sym, ap, ap₂, ◌∙◌}
use mathlib.Core.List.{List, [], ◌∷◌, reverse, reverse-cons}
use Prim.Native.Nat.{ℕ, zero, suc, ◌+◌, ◌*◌, ◌-◌, ◌/◌, ◌%◌, ◌^◌, ◌≤◌, ◌<◌}
use native.Mathlib.Nat.{mod-eq_of_lt}
use native.Mathlib.Numerals.{add-one}
use native.Mathlib.Omega.{arith}
use lib.Ieee.{Float}
use lib.Pow.{pow_mono}
use lib.ListN.{length, get_or, take, drop, set, length-drop}
use lib.Seq.{sets, drop-cons, take-suc, get_or-drop}
use Rattle.format.specs.Bytes.{le, be, le_bytes, be_bytes, field}
use Rattle.format.specs.Numbers.{f64_le, f64s_le}
use Rattle.std.specs.List.{fold}
use Rattle.std.specs.Int.RustNames.{bit_or}
use Rattle.std.proofs.lemmas.List.Sums.{fold-append}
use Rattle.std.proofs.lemmas.Nat.{or_shifted}
use Rattle.format.proofs.ByteLaws.{all_bytes, le-none, be-none, field-none, field-cons, le_more, be_more, le_field_lt, be_field_lt, sets-be}
use Rattle.format.proofs.Equations.{le_bytes_suc, f64s_le-cons}
use Rattle.format.proofs.LayoutLaws.{sets-append}
use Rattle.format.proofs.NumberLaws.{length-f64_le}

-- ---- reading a number: each byte goes in behind those in front of it

-- what a step makes of a byte and the number so far
abbrev pub with_byte : ℕ → ℕ → ℕ
with_byte n b = bit_or (n * 2 ^ 8 % 2 ^ 64) b

behind : (m n b : ℕ) → m < 8 → n < 2 ^ (8 * m) → b < 256 → with_byte n b ≡ b + 256 * n
behind m n b h k l =
    let e : 8 * m ≤ 56 = omega arith in
    let p : 2 ^ (8 * m) ≤ 2 ^ 56 = pow_mono e in
    let q : n * 2 ^ 8 % 2 ^ 64 ≡ n * 2 ^ 8 = mod-eq_of_lt (omega arith) in
    rw q (omega (arith, or_shifted n 8 b l))

module _ (s : List ℕ) (bytes : (i : ℕ) → get_or s i 0 < 256) where
  pub be_folded : (k at : ℕ) → k ≤ 8 → at + k ≤ length s → fold with_byte 0 (field k at s) ≡ be (field k at s)
  unfolding field
  be_folded zero at h r = sym (be-none at s)
  be_folded (suc k) at h r =
      let p : k < length (drop at s) = simp length-drop (omega arith) in
      ap (fold with_byte 0) (take-suc (drop at s) k 0 p)
      ∙ (fold-append with_byte 0 (take k (drop at s)) (get_or (drop at s) k 0 ∷ [])
      ∙ (ap₂ with_byte (be_folded k at (omega arith) (omega arith)) (get_or-drop at s k 0)
      ∙ (behind k _ _ (omega arith) (be_field_lt k at s (all_bytes s bytes) (omega arith)) (bytes (at + k)) ∙ sym (be_more s k at (omega arith)))))

  pub le_folded : (k at : ℕ) → k ≤ 8 → at + k ≤ length s → fold with_byte 0 (reverse (field k at s)) ≡ le (field k at s)
  le_folded zero at h r = ap (λ (l : List ℕ). fold with_byte 0 (reverse l)) (field-none at s) ∙ sym (le-none at s)
  le_folded (suc k) at h r =
      let b = get_or s at 0 in
      let l = field k (at + 1) s in
      let more : le (field (suc k) at s) ≡ b + 256 * le l = rw add-one (le_more s k at (omega arith)) in
      ap (λ (xs : List ℕ). fold with_byte 0 (reverse xs)) (field-cons k at s (omega arith))
      ∙ (ap (fold with_byte 0) (reverse-cons b l)
      ∙ (fold-append with_byte 0 (reverse l) (b ∷ [])
      ∙ (ap (λ (n : ℕ). with_byte n b) (le_folded k (at + 1) (omega arith) (omega arith))
      ∙ (behind k _ b (omega arith) (le_field_lt k (at + 1) s (all_bytes s bytes) (omega arith)) (bytes at) ∙ sym more))))

-- ---- writing a number, the low byte first in time

pub put_le_turn : (l : List ℕ) (k at i v : ℕ) → i < k → sets (set l (at + i) (v % 256)) (at + (i + 1)) (le_bytes (k - (i + 1)) (v / 256)) ≡ sets l (at + i) (le_bytes (k - i) v)
put_le_turn l k at i v h =
    let a : k - i ≡ suc (k - (i + 1)) = omega arith in
    let b : at + (i + 1) ≡ suc (at + i) = omega arith in
    rw (a, b, le_bytes_suc)

pub put_be_turn : (l : List ℕ) (at i v : ℕ) → 0 < i → sets (set l (at + (i - 1)) (v % 256)) at (be_bytes (i - 1) (v / 256)) ≡ sets l at (be_bytes i v)
put_be_turn l at i v h =
    let a : i ≡ suc (i - 1) = omega arith in
    sym (ap (λ (m : ℕ). sets l at (be_bytes m v)) a ∙ sets-be l (i - 1) at v)

-- ---- runs of doubles

pub write_turn : (out : List ℕ) (at i : ℕ) (xs : List Float) (d : Float) → i < length xs → sets (sets out (at + 8 * i) (f64_le (get_or xs i d))) (at + 8 * (i + 1)) (f64s_le (drop (i + 1) xs)) ≡ sets out (at + 8 * i) (f64s_le (drop i xs))
write_turn out at i xs d h =
    let e : at + 8 * (i + 1) ≡ at + 8 * i + length (f64_le (get_or xs i d)) = omega (arith, length-f64_le (get_or xs i d)) in
    rw (drop-cons xs i d h, f64s_le-cons, e, add-one) (sym (sets-append (f64_le (get_or xs i d)) _ out (at + 8 * i)))
