-- One turn of each loop of the crate, in the loop's own terms: what is left to do before the turn is the turn and what is left after it.
use mathlib.Core.Path.{◌≡◌, refl, sym, ap, ◌∙◌}
use mathlib.Core.List.{List, ◌∷◌, ◌++◌, flatten}
use Prim.Native.Nat.{ℕ, ◌+◌, ◌*◌, ◌<◌}
use native.Mathlib.Numerals.{add-one}
use native.Mathlib.Omega.{arith}
use lib.Ieee.{Float}
use lib.ListN.{length, get_or, drop, length-append}
use lib.Seq.{sets, drop-cons}
use Rattle.std.specs.List.{enumerate_from, zip}
use Rattle.std.proofs.lemmas.List.FromFn.{length-enumerate_from, get_or-enumerate_from}
use Rattle.std.proofs.lemmas.Slice.Zip.{length-zip, get_or-zip}
use Rattle.format.specs.Bytes.{le_bytes}
use Rattle.format.specs.Numbers.{little, f64_le}
use Rattle.format.proofs.Equations.{little-is}
use Rattle.format.proofs.LayoutLaws.{sets-append, onto}
use Rattle.format.proofs.NumberLaws.{length-little, length-f64_le}
use Rattle.layouts.specs.Steps.{starts_bytes, pairs_bytes}
use Rattle.layouts.proofs.TableLaws.{pair_is}

-- ---- starts that run on

pub starts_turn : (out : List ℕ) (at i a : ℕ) (counts : List ℕ) → i < length counts → sets (sets out (at + 4 * i) (le_bytes 4 a)) (at + 4 * (i + 1)) (starts_bytes (a + get_or counts i 0) (drop (i + 1) counts)) ≡ sets out (at + 4 * i) (starts_bytes a (drop i counts))
unfolding starts_bytes
starts_turn out at i a counts h =
    let e : at + 4 * (i + 1) ≡ at + 4 * i + length (little a) = omega (arith, length-little a) in
    rw (drop-cons counts i 0 h, e, add-one, ← little-is a) (sym (sets-append (little a) _ out (at + 4 * i)))

-- ---- pairs that run on

each_part : {i n : ℕ} {x a y b : Float} → ◌≡◌ {A = ℕ × (Float × Float)} (i, (x, y)) (n, (a, b)) → (i ≡ n) × (x ≡ a) × (y ≡ b)
each_part e = (ap (λ (q : ℕ × (Float × Float)). q.0) e, ap (λ (q : ℕ × (Float × Float)). q.1.0) e, ap (λ (q : ℕ × (Float × Float)). q.1.1) e)

-- the i-th pair of a run over both lists, by where it stands
pub pair_at : (xs ys : List Float) (n i : ℕ) (x y : Float) → length ys ≡ length xs → n < length (enumerate_from 0 (zip xs ys)) → (i, (x, y)) ≡ get_or (enumerate_from 0 (zip xs ys)) n (i, (x, y))
    → (n < length xs) × (i ≡ n) × (drop n xs ≡ x ∷ drop (n + 1) xs) × (drop n ys ≡ y ∷ drop (n + 1) ys)
pair_at xs ys n i x y same h e =
    let k : n < length xs = omega (arith, length-enumerate_from 0 (zip xs ys), length-zip xs ys) in
    let ky : n < length ys = omega arith in
    let z : n < length (zip xs ys) = omega (arith, length-enumerate_from 0 (zip xs ys)) in
    let z0 : 0 + n ≡ n = omega arith in
    let there = rw (z0, get_or-zip xs ys n (x, y) k ky) at (get_or-enumerate_from 0 (zip xs ys) n (i, (x, y)) z) in
    let parts : (i ≡ n) × (x ≡ get_or xs n x) × (y ≡ get_or ys n y) = each_part (e ∙ there) in
    let dx = drop-cons xs n x k in
    let dy = drop-cons ys n y ky in
    (k, parts.0, rw add-one (cc), rw add-one (cc))

-- what is left, from point n on, at the place of point n, once x and y of that point are stored
pub pairs_turn : (out l1 l2 : List ℕ) (at n i m : ℕ) (xs ys : List Float) (x y : Float) → i ≡ n → m ≡ n + 1 → drop n xs ≡ x ∷ drop (n + 1) xs → drop n ys ≡ y ∷ drop (n + 1) ys
    → l1 ≡ sets out (at + 16 * i) (f64_le x) → l2 ≡ sets l1 (at + 16 * i + 8) (f64_le y)
    → sets l2 (at + 16 * m) (pairs_bytes (drop m xs) (drop m ys)) ≡ sets out (at + 16 * n) (pairs_bytes (drop n xs) (drop n ys))
unfolding flatten
pairs_turn out l1 l2 at n i m xs ys x y ei em dx dy p q =
    let pair = onto out l1 l2 (f64_le x) (f64_le y) (at + 16 * n) (at + 16 * n + 8) (simp length-f64_le) (rw ei at p) (rw ei at q) in
    let j : at + 16 * (n + 1) ≡ at + 16 * n + length (f64_le x ++ f64_le y) = simp (length-append, length-f64_le) (omega arith) in
    rw (em, dx, dy, pair_is) (onto out l2 _ (f64_le x ++ f64_le y) _ (at + 16 * n) (at + 16 * (n + 1)) j pair refl)
