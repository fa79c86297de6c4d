-- Runs of numbers of one width in the bytes: read and written, and read by their values.
use mathlib.Core.Path.{◌≡◌, refl, sym, ap, ◌∙◌}
use mathlib.Core.List.{List, [], ◌∷◌, ◌++◌, map, flatten, append_assoc}
use Prim.Native.Nat.{ℕ, zero, suc, ◌+◌, ◌*◌, ◌^◌, ◌≤◌, ◌<◌}
use native.Mathlib.Nat.{mul-suc, add-zero}
use native.Mathlib.Omega.{arith}
use lib.Ieee.{binary64, of_bits}
use lib.IntN.{pos}
use lib.ListN.{length, drop, get_or, length-append}
use mir.Syntax.{w32}
use mir.Val.{to_z}
use mir.ValLaws.{to_z-of_z}
use Rattle.format.specs.Bytes.{le, le_bytes, field, Fit}
use Rattle.format.specs.Numbers.{le_i32, le_f64, doubles_at}
use Rattle.format.proofs.ByteLaws.{AllBytes, length_le_bytes}
use Rattle.format.proofs.Places.{Stands, join, front, back, le-back, le_stands}

-- n numbers of w bytes from a place on
unfoldable pub numbers : ℕ → ℕ → ℕ → List ℕ → List ℕ
numbers w zero at s = []
numbers w (suc n) at s = le (field w at s) ∷ numbers w n (at + w) s

pub numbers-zero : (w at : ℕ) (s : List ℕ) → numbers w 0 at s ≡ []
unfolding numbers
numbers-zero w at s = refl

pub numbers-suc : (w n at : ℕ) (s : List ℕ) → numbers w (suc n) at s ≡ le (field w at s) ∷ numbers w n (at + w) s
unfolding numbers
numbers-suc w n at s = refl

pub four_numbers : (w at : ℕ) (s : List ℕ)
    → numbers w 4 at s ≡ le (field w at s) ∷ le (field w (at + w) s) ∷ le (field w (at + w + w) s) ∷ le (field w (at + w + w + w) s) ∷ []
unfolding numbers
four_numbers w at s = refl

-- and the bytes of numbers
abbrev pub run : ℕ → List ℕ → List ℕ
run w ds = flatten (map (le_bytes w) ds)

pub length-numbers : (w n at : ℕ) (s : List ℕ) → length (numbers w n at s) ≡ n
unfolding numbers
length-numbers w zero at s = refl
length-numbers w (suc n) at s = ap suc (length-numbers w n (at + w) s)

pub length_run : (w : ℕ) (ds : List ℕ) → length (run w ds) ≡ w * length ds
unfolding flatten
length_run w [] = omega arith
length_run w (d ∷ ds) = rw (length-append, length_le_bytes, length_run w ds, mul-suc) (omega arith)

pub run_append : (w : ℕ) (a b : List ℕ) → run w (a ++ b) ≡ run w a ++ run w b
unfolding flatten
run_append w [] b = refl
run_append w (d ∷ a) b = rw (run_append w a b, append_assoc)

-- what was read is written
pub run_stands : (w n at : ℕ) (s : List ℕ) → AllBytes s → at + w * n ≤ length s → Stands at (run w (numbers w n at s)) s
unfolding flatten numbers
run_stands w zero at s b h = record { here = ap (λ (a : ℕ). drop a s) (add-zero at) }
run_stands w (suc n) at s b h =
    let k : at + (w * n + w) ≤ length s = rw mul-suc at h in
    join at w (le_bytes w (le (field w at s))) (run w (numbers w n (at + w) s)) s (length_le_bytes w _) (le_stands w at s b (omega arith))
    (run_stands w n (at + w) s b (omega arith))

-- and what was written is read
pub numbers-back : (w at : ℕ) (ds s : List ℕ) → Fit w ds → Stands at (run w ds) s → numbers w (length ds) at s ≡ ds
unfolding flatten numbers
numbers-back w at [] s f p = refl
numbers-back w at (d ∷ ds) s f p =
    let h = le-back w d at s f.0 (front at w (le_bytes w d) (run w ds) s (length_le_bytes w d) p) in
    let t = numbers-back w (at + w) ds s f.1 (back at w (le_bytes w d) (run w ds) s (length_le_bytes w d) p) in
    λ i. h i ∷ t i

-- number i
pub number-at : (w n at : ℕ) (s : List ℕ) (i : ℕ) → i < n → get_or (numbers w n at s) i 0 ≡ le (field w (at + w * i) s)
unfolding numbers
number-at w zero at s i h = absurd (omega arith)
number-at w (suc n) at s zero h = ap (λ (a : ℕ). le (field w a s)) (omega arith)
number-at w (suc n) at s (suc i) h =
    number-at w n (at + w) s i (omega arith) ∙ ap (λ (a : ℕ). le (field w a s)) (omega (arith, mul-suc w i))

-- ---- by their values: an i32 that is not negative, and doubles

pub i32_back : (n at : ℕ) (s : List ℕ) → n < 2 ^ 31 → Stands at (le_bytes 4 n) s → le_i32 at s ≡ pos n
unfolding le_i32
i32_back n at s h p = ap (to_z w32) (le-back 4 n at s (omega arith) p) ∙ to_z-of_z w32 (pos n) (record { sfits = h })

pub double-back : (d at : ℕ) (s : List ℕ) → d < 2 ^ 64 → Stands at (le_bytes 8 d) s → le_f64 at s ≡ of_bits binary64 d
unfolding le_f64
double-back d at s h p = ap (of_bits binary64) (le-back 8 d at s h p)

doubles_are : (n at : ℕ) (s : List ℕ) → doubles_at 8 n at s ≡ map (of_bits binary64) (numbers 8 n at s)
unfolding doubles_at numbers le_f64
doubles_are zero at s = refl
doubles_are (suc n) at s = ap (◌∷◌ (le_f64 at s)) (doubles_are n (at + 8) s)

-- all of those that stand there, and double i of them
module _ (at : ℕ) (ds s : List ℕ) (f : Fit 8 ds) (p : Stands at (run 8 ds) s) where
  pub doubles-back : (n : ℕ) → length ds ≡ n → doubles_at 8 n at s ≡ map (of_bits binary64) ds
  doubles-back n e = rw (← e) (doubles_are (length ds) at s ∙ ap (map (of_bits binary64)) (numbers-back 8 at ds s f p))

  pub double-at : (i : ℕ) → i < length ds → le_f64 (at + 8 * i) s ≡ of_bits binary64 (get_or ds i 0)
  unfolding le_f64
  double-at i h = ap (of_bits binary64) (sym (number-at 8 (length ds) at s i h) ∙ ap (λ (l : List ℕ). get_or l i 0) (numbers-back 8 at ds s f p))
