-- Z or m of several points, where its bytes stand: the range and the values that are found there are its own.
use mathlib.Core.Path.{◌≡◌, refl}
use mathlib.Core.Bool.{Bool, true, false, cond}
use mathlib.Core.List.{List, [], ◌∷◌, ◌++◌, map, flatten}
use mathlib.Core.Option.{Option, none, some}
use Prim.Native.Nat.{ℕ, ◌+◌, ◌*◌}
use native.Mathlib.Omega.{arith}
use lib.Ieee.{Float}
use lib.ListN.{length}
use Rattle.format.specs.Bytes.{le_bytes}
use Rattle.format.specs.Numbers.{doubles_at}
use Rattle.format.specs.Shapes.{Measure, there, Covers}
use Rattle.format.proofs.ByteLaws.{length_le_bytes}
use Rattle.format.proofs.Doubles.{measured, write_if}
use Rattle.format.proofs.Places.{Stands, front, back}
use Rattle.format.proofs.Runs.{run, run_append, length_run, double-back, doubles-back}
use Rattle.multipart.specs.Body.{range_at, no_range}
use Rattle.readback.specs.Held.{MeasureHeld}
use Rattle.readback.specs.ReadBack.{range_of, values_of}

-- its bytes
abbrev pub laid : ℕ → Option Measure → List ℕ
laid n o = run 8 (write_if (measured n) o)

pub length_laid : (n : ℕ) (o : Option Measure) → Covers n o → length (laid n o) ≡ cond (there o) (16 + 8 * n) 0
unfolding flatten
length_laid n none c = refl
length_laid n (some r) c = omega (arith, length_run 8 (r.low ∷ r.high ∷ r.values))

-- and their number, from that of its doubles
pub measure-size : (flag : Bool) (n : ℕ) → 8 * cond flag (2 + n) 0 ≡ cond flag (16 + 8 * n) 0
measure-size true n = omega arith
measure-size false n = refl

module _ (n at : ℕ) (s : List ℕ) where
  pub range_back : (o : Option Measure) → MeasureHeld o → Stands at (laid n o) s → cond (there o) (range_at at s) no_range ≡ range_of o
  unfolding flatten
  range_back none f p = refl
  range_back (some r) f p =
      let later : List ℕ = le_bytes 8 r.high ++ run 8 r.values in
      let low = double-back r.low at s f.0 (front at 8 (le_bytes 8 r.low) later s (length_le_bytes 8 r.low) p) in
      let behind = back at 8 (le_bytes 8 r.low) later s (length_le_bytes 8 r.low) p in
      let high = double-back r.high (at + 8) s f.1.0 (front (at + 8) 8 (le_bytes 8 r.high) (run 8 r.values) s (length_le_bytes 8 r.high) behind) in
      λ i. record { low = low i; high = high i }

  pub values-back : (o : Option Measure) → Covers n o → MeasureHeld o → Stands at (laid n o) s → cond (there o) (doubles_at 8 n (at + 16) s) [] ≡ values_of o
  values-back none c f p = refl
  values-back (some r) c f p =
      doubles-back (at + 16) r.values s f.1.1
      (back at 16 (run 8 (r.low ∷ r.high ∷ [])) (run 8 r.values) s (length_run 8 (r.low ∷ r.high ∷ []))
      (rw (run_append 8 (r.low ∷ r.high ∷ []) r.values) at p))
      n c

pub map-cond : (f : Float → Float) (t : Bool) (l : List Float) → cond t (map f l) [] ≡ map f (cond t l [])
map-cond f true l = refl
map-cond f false l = refl
