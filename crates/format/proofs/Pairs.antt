-- Points as a list of numbers, two for each: read from its front and written to it; and their x and their y, read each by itself.
use mathlib.Core.Path.{◌≡◌, refl, ap}
use mathlib.Core.List.{List, [], ◌∷◌, ◌++◌, map, flatten}
use Prim.Native.Nat.{ℕ, zero, suc, ◌+◌, ◌*◌, ◌^◌, ◌≤◌, ◌<◌}
use native.Mathlib.Omega.{arith}
use lib.Ieee.{binary64, of_bits}
use lib.ListN.{length, take, drop, get_or}
use lib.Seq.{get_or-drop}
use Rattle.format.specs.Bytes.{le_bytes, Fit}
use Rattle.format.specs.Numbers.{le_f64, doubles_at}
use Rattle.format.specs.Shapes.{Point}
use Rattle.format.specs.WellFormed.{coordinates}
use Rattle.format.proofs.ByteLaws.{length_le_bytes}
use Rattle.format.proofs.Places.{Stands, front, back}
use Rattle.format.proofs.Runs.{run, double-back}

unfoldable pub pairs : ℕ → List ℕ → List Point
pairs zero ds = []
pairs (suc n) ds = record { x = get_or ds 0 0; y = get_or ds 1 0 } ∷ pairs n (drop 2 ds)

-- the point that stands for those past the end
pub nowhere : Point
nowhere = record { x = 0; y = 0 }

pub pairs_one : (ds : List ℕ) → pairs 1 ds ≡ record { x = get_or ds 0 0; y = get_or ds 1 0 } ∷ []
unfolding pairs
pairs_one ds = refl

pub length_pairs : (n : ℕ) (ds : List ℕ) → length (pairs n ds) ≡ n
unfolding pairs
length_pairs zero ds = refl
length_pairs (suc n) ds = ap suc (length_pairs n (drop 2 ds))

pub length-coordinates : (ps : List Point) → length (coordinates ps) ≡ 2 * length ps
length-coordinates [] = refl
length-coordinates (p ∷ ps) = omega (arith, length-coordinates ps)

pub pairs-written : (n : ℕ) (ds : List ℕ) → 2 * n ≤ length ds → coordinates (pairs n ds) ≡ take (2 * n) ds
unfolding pairs
pairs-written zero ds h = refl
pairs-written (suc n) [] h = absurd (omega arith)
pairs-written (suc n) (a ∷ []) h = absurd (omega arith)
pairs-written (suc n) (a ∷ b ∷ ds) h =
    let e : 2 * suc n ≡ suc (suc (2 * n)) = omega arith in
    rw e (ap (λ (l : List ℕ). a ∷ b ∷ l) (pairs-written n ds (omega arith)))

pub pairs-read : (ps : List Point) (t : List ℕ) → pairs (length ps) (coordinates ps ++ t) ≡ ps
unfolding pairs
pairs-read [] t = refl
pairs-read (p ∷ ps) t = ap (◌∷◌ p) (pairs-read ps t)

-- point i
pub pair_at : (n : ℕ) (ds : List ℕ) (i : ℕ) (d : Point) → i < n → get_or (pairs n ds) i d ≡ record { x = get_or ds (2 * i) 0; y = get_or ds (2 * i + 1) 0 }
unfolding pairs
pair_at zero ds i d h = absurd (omega arith)
pair_at (suc n) ds zero d h = refl
pair_at (suc n) ds (suc i) d h =
    let e : 2 + 2 * i ≡ 2 * suc i = omega arith in
    let f : 2 + (2 * i + 1) ≡ 2 * suc i + 1 = omega arith in
    rw (pair_at n (drop 2 ds) i d (omega arith), get_or-drop 2 ds (2 * i) 0, get_or-drop 2 ds (2 * i + 1) 0, e, f)

-- ---- of points that stand in the bytes, one pair behind the other, all x and all y

module _ (s : List ℕ) where
  -- behind a number that stands there the others do
  behind : (at d : ℕ) (ds : List ℕ) → Stands at (run 8 (d ∷ ds)) s → Stands (at + 8) (run 8 ds) s
  unfolding flatten
  behind at d ds p = back at 8 (le_bytes 8 d) (run 8 ds) s (length_le_bytes 8 d) p

  first_of : (at d : ℕ) (ds : List ℕ) → d < 2 ^ 64 → Stands at (run 8 (d ∷ ds)) s → le_f64 at s ≡ of_bits binary64 d
  unfolding flatten
  first_of at d ds h p = double-back d at s h (front at 8 (le_bytes 8 d) (run 8 ds) s (length_le_bytes 8 d) p)

  next_pair : (at : ℕ) (p : Point) (ps : List Point) → Stands at (run 8 (coordinates (p ∷ ps))) s → Stands (at + 16) (run 8 (coordinates ps)) s
  next_pair at p ps h =
      let e : at + 8 + 8 ≡ at + 16 = omega arith in
      rw e at (behind (at + 8) p.y (coordinates ps) (behind at p.x (p.y ∷ coordinates ps) h))

  pub xs_back : (ps : List Point) (at : ℕ) → Fit 8 (coordinates ps) → Stands at (run 8 (coordinates ps)) s → doubles_at 16 (length ps) at s ≡ map (λ (p : Point). of_bits binary64 p.x) ps
  unfolding doubles_at
  xs_back [] at f h = refl
  xs_back (p ∷ ps) at f h =
      let x = first_of at p.x (p.y ∷ coordinates ps) f.0 h in
      let t = xs_back ps (at + 16) f.1.1 (next_pair at p ps h) in
      λ i. x i ∷ t i

  pub ys_back : (ps : List Point) (at : ℕ) → Fit 8 (coordinates ps) → Stands at (run 8 (coordinates ps)) s → doubles_at 16 (length ps) (at + 8) s ≡ map (λ (p : Point). of_bits binary64 p.y) ps
  unfolding doubles_at
  ys_back [] at f h = refl
  ys_back (p ∷ ps) at f h =
      let y = first_of (at + 8) p.y (coordinates ps) f.1.0 (behind at p.x (p.y ∷ coordinates ps) h) in
      let e : at + 16 + 8 ≡ at + 8 + 16 = omega arith in
      let t = rw e at (ys_back ps (at + 16) f.1.1 (next_pair at p ps h)) in
      λ i. y i ∷ t i
