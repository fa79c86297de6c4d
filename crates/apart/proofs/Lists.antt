-- Laws of taking pairs apart and putting them together: lengths, the front of a store, what is stored, and the doubles of a body.
use mathlib.Core.Path.{◌≡◌, refl, sym, ap, ap₂, ◌∙◌}
use mathlib.Core.List.{List, [], ◌∷◌}
use Prim.Native.Nat.{ℕ, zero, suc, ◌+◌, ◌*◌, ◌/◌, min}
use native.Mathlib.Omega.{arith}
use lib.Ieee.{Float}
use lib.ListN.{length, take, set}
use lib.Seq.{sets}
use Rattle.format.specs.Numbers.{le_f64, doubles_at}
use Rattle.format.proofs.NumberLaws.{length-doubles_at, doubles_at-zero, doubles_at-suc}
use Rattle.apart.specs.Pairs.{all_x, all_y, together}

-- ---- lengths: x has one more where there is an odd number of entries

pub length-x : (xy : List Float) → length (all_x xy) ≡ (length xy + 1) / 2
length-x [] = refl
length-x (x ∷ []) = refl
length-x (x ∷ y ∷ xy) = omega (arith, length-x xy)

pub length-y : (xy : List Float) → length (all_y xy) ≡ length xy / 2
length-y [] = refl
length-y (x ∷ []) = refl
length-y (x ∷ y ∷ xy) = omega (arith, length-y xy)

pub length-together : (xs ys : List Float) → length (together xs ys) ≡ 2 * min (length xs) (length ys)
length-together [] ys = omega arith
length-together (x ∷ xs) [] = omega arith
length-together (x ∷ xs) (y ∷ ys) = omega (arith, length-together xs ys)

-- ---- what was put together is taken apart

pub x-back : (xs ys : List Float) → length xs ≡ length ys → all_x (together xs ys) ≡ xs
x-back [] ys e = refl
x-back (x ∷ xs) [] e = absurd (omega arith)
x-back (x ∷ xs) (y ∷ ys) e = ap (◌∷◌ x) (x-back xs ys (omega arith))

pub y-back : (xs ys : List Float) → length xs ≡ length ys → all_y (together xs ys) ≡ ys
y-back [] [] e = refl
y-back [] (y ∷ ys) e = absurd (omega arith)
y-back (x ∷ xs) [] e = absurd (omega arith)
y-back (x ∷ xs) (y ∷ ys) e = ap (◌∷◌ y) (y-back xs ys (omega arith))

pub back-together : (n : ℕ) (xy : List Float) → length xy ≡ 2 * n → together (all_x xy) (all_y xy) ≡ xy
back-together n [] e = refl
back-together n (x ∷ []) e = absurd (omega arith)
back-together zero (x ∷ y ∷ xy) e = absurd (omega arith)
back-together (suc n) (x ∷ y ∷ xy) e = ap (λ (l : List Float). x ∷ y ∷ l) (back-together n xy (omega arith))

-- ---- the first n pairs

double : (n : ℕ) → 2 * suc n ≡ suc (suc (2 * n))
double n = omega arith

take_none : (n : ℕ) → take {A = Float} n [] ≡ []
take_none zero = refl
take_none (suc n) = refl

pub take_apart : (n : ℕ) (xy : List Float) → (all_x (take (2 * n) xy) ≡ take n (all_x xy)) × (all_y (take (2 * n) xy) ≡ take n (all_y xy))
take_apart zero xy = (refl, refl)
take_apart (suc n) [] = rw (double n) (refl, refl)
take_apart (suc n) (x ∷ []) = rw (double n) (ap (◌∷◌ x) (sym (take_none n)), refl)
take_apart (suc n) (x ∷ y ∷ xy) =
    let t = take_apart n xy in
    rw (double n) (ap (◌∷◌ x) t.0, ap (◌∷◌ y) t.1)

pub take-together : (n : ℕ) (xs ys : List Float) → together (take n xs) (take n ys) ≡ take (2 * n) (together xs ys)
take-together zero xs ys = refl
take-together (suc n) [] ys = rw (double n) refl
take-together (suc n) (x ∷ xs) [] = rw (double n) refl
take-together (suc n) (x ∷ xs) (y ∷ ys) = rw (double n) (ap (λ (l : List Float). x ∷ y ∷ l) (take-together n xs ys))

-- ---- what is stored from the n-th pair on

sets-cons : (x : Float) (l : List Float) (i : ℕ) (vs : List Float) → sets (x ∷ l) (suc i) vs ≡ x ∷ sets l i vs
sets-cons x l i [] = refl
sets-cons x l i (v ∷ vs) = sets-cons x (set l i v) (suc i) vs

sets-none : (i : ℕ) (vs : List Float) → [] ≡ sets [] i vs
sets-none i [] = refl
sets-none i (v ∷ vs) = sets-none (suc i) vs

-- a pair at the front, and what is stored behind it
sets-pair : (x y : Float) (l : List Float) (i : ℕ) (vs : List Float) → sets (x ∷ y ∷ l) (suc (suc i)) vs ≡ x ∷ y ∷ sets l i vs
sets-pair x y l i vs = sets-cons x (y ∷ l) (suc i) vs ∙ ap (◌∷◌ x) (sets-cons y l i vs)

front_apart : (xy vs : List Float) → (all_x (sets xy 0 vs) ≡ sets (all_x xy) 0 (all_x vs)) × (all_y (sets xy 0 vs) ≡ sets (all_y xy) 0 (all_y vs))
front_apart xy [] = (refl, refl)
front_apart [] (v ∷ []) = (refl, refl)
front_apart (x ∷ []) (v ∷ []) = (refl, refl)
front_apart (x ∷ y ∷ xy) (v ∷ []) = (refl, refl)
front_apart [] (v ∷ w ∷ vs) = (ap all_x (sym (sets-none 2 vs)) ∙ sets-none 1 (all_x vs), ap all_y (sym (sets-none 2 vs)) ∙ sets-none 1 (all_y vs))
front_apart (x ∷ []) (v ∷ w ∷ vs) =
    let e : sets (v ∷ []) 2 vs ≡ v ∷ [] = sets-cons v [] 1 vs ∙ ap (◌∷◌ v) (sym (sets-none 1 vs)) in
    (ap all_x e ∙ (ap (◌∷◌ v) (sets-none 0 (all_x vs)) ∙ sym (sets-cons v [] 0 (all_x vs))), ap all_y e ∙ sets-none 1 (all_y vs))
front_apart (x ∷ y ∷ xy) (v ∷ w ∷ vs) =
    let t = front_apart xy vs in
    let e = sets-pair v w xy 0 vs in
    (ap all_x e ∙ (ap (◌∷◌ v) t.0 ∙ sym (sets-cons v (all_x xy) 0 (all_x vs))), ap all_y e ∙ (ap (◌∷◌ w) t.1 ∙ sym (sets-cons w (all_y xy) 0 (all_y vs))))

pub sets_apart : (n : ℕ) (xy vs : List Float) → (all_x (sets xy (2 * n) vs) ≡ sets (all_x xy) n (all_x vs)) × (all_y (sets xy (2 * n) vs) ≡ sets (all_y xy) n (all_y vs))
sets_apart zero xy vs = front_apart xy vs
sets_apart (suc n) [] vs =
    let e = sym (sets-none (2 * suc n) vs) in
    (ap all_x e ∙ sets-none (suc n) (all_x vs), ap all_y e ∙ sets-none (suc n) (all_y vs))
sets_apart (suc n) (x ∷ []) vs =
    let e : sets (x ∷ []) (2 * suc n) vs ≡ x ∷ [] = rw (double n) (sets-cons x [] (suc (2 * n)) vs ∙ ap (◌∷◌ x) (sym (sets-none (suc (2 * n)) vs))) in
    (ap all_x e ∙ (ap (◌∷◌ x) (sets-none n (all_x vs)) ∙ sym (sets-cons x [] n (all_x vs))), ap all_y e ∙ sets-none (suc n) (all_y vs))
sets_apart (suc n) (x ∷ y ∷ xy) vs =
    let t = sets_apart n xy vs in
    let e : sets (x ∷ y ∷ xy) (2 * suc n) vs ≡ x ∷ y ∷ sets xy (2 * n) vs = rw (double n) (sets-pair x y xy (2 * n) vs) in
    (ap all_x e ∙ (ap (◌∷◌ x) t.0 ∙ sym (sets-cons x (all_x xy) n (all_x vs))), ap all_y e ∙ (ap (◌∷◌ y) t.1 ∙ sym (sets-cons y (all_y xy) n (all_y vs))))

-- where one of the two stores has ended nothing is put together
together-none : (xs ys : List Float) → [] ≡ ys → together xs ys ≡ []
together-none [] ys e = refl
together-none (x ∷ xs) ys e = ap (together (x ∷ xs)) (sym e)

front-together : (xs ys us vs : List Float) → length us ≡ length vs → together (sets xs 0 us) (sets ys 0 vs) ≡ sets (together xs ys) 0 (together us vs)
front-together xs ys [] [] e = refl
front-together xs ys [] (v ∷ vs) e = absurd (omega arith)
front-together xs ys (u ∷ us) [] e = absurd (omega arith)
front-together [] ys (u ∷ us) (v ∷ vs) e =
    ap (λ (l : List Float). together l (sets ys 0 (v ∷ vs))) (sym (sets-none 1 us)) ∙ sets-none 2 (together us vs)
front-together (x ∷ xs) [] (u ∷ us) (v ∷ vs) e = together-none (sets (u ∷ xs) 1 us) (sets [] 1 vs) (sets-none 1 vs) ∙ sets-none 2 (together us vs)
front-together (x ∷ xs) (y ∷ ys) (u ∷ us) (v ∷ vs) e =
    ap₂ together (sets-cons u xs 0 us) (sets-cons v ys 0 vs)
    ∙ (ap (λ (l : List Float). u ∷ v ∷ l) (front-together xs ys us vs (omega arith)) ∙ sym (sets-pair u v (together xs ys) 0 (together us vs)))

pub sets-together : (n : ℕ) (xs ys us vs : List Float) → length us ≡ length vs → together (sets xs n us) (sets ys n vs) ≡ sets (together xs ys) (2 * n) (together us vs)
sets-together zero xs ys us vs e = front-together xs ys us vs e
sets-together (suc n) [] ys us vs e =
    ap (λ (l : List Float). together l (sets ys (suc n) vs)) (sym (sets-none (suc n) us)) ∙ sets-none (2 * suc n) (together us vs)
sets-together (suc n) (x ∷ xs) [] us vs e =
    together-none (sets (x ∷ xs) (suc n) us) (sets [] (suc n) vs) (sets-none (suc n) vs) ∙ sets-none (2 * suc n) (together us vs)
sets-together (suc n) (x ∷ xs) (y ∷ ys) us vs e =
    ap₂ together (sets-cons x xs n us) (sets-cons y ys n vs)
    ∙ (ap (λ (l : List Float). x ∷ y ∷ l) (sets-together n xs ys us vs e) ∙ rw (double n) (sym (sets-pair x y (together xs ys) (2 * n) (together us vs))))

-- ---- the pairs of a body

pub doubles_apart : (n at : ℕ) (s : List ℕ) → (all_x (doubles_at 8 (2 * n) at s) ≡ doubles_at 16 n at s) × (all_y (doubles_at 8 (2 * n) at s) ≡ doubles_at 16 n (at + 8) s)
doubles_apart zero at s = (ap all_x (doubles_at-zero 8 at s) ∙ sym (doubles_at-zero 16 at s), ap all_y (doubles_at-zero 8 at s) ∙ sym (doubles_at-zero 16 (at + 8) s))
doubles_apart (suc n) at s =
    let a : at + 8 + 8 ≡ at + 16 = omega arith in
    let b : at + 16 + 8 ≡ at + 8 + 16 = omega arith in
    let e : doubles_at 8 (2 * suc n) at s ≡ le_f64 at s ∷ le_f64 (at + 8) s ∷ doubles_at 8 (2 * n) (at + 16) s = rw (double n, ← a) (doubles_at-suc 8 (suc (2 * n)) at s ∙ ap (◌∷◌ (le_f64 at s)) (doubles_at-suc 8 (2 * n) (at + 8) s)) in
    let t = doubles_apart n (at + 16) s in
    (ap all_x e ∙ (ap (◌∷◌ (le_f64 at s)) t.0 ∙ sym (doubles_at-suc 16 n at s)), ap all_y e ∙ (ap (◌∷◌ (le_f64 (at + 8) s)) (rw b at t.1) ∙ sym (doubles_at-suc 16 n (at + 8) s)))

pub doubles-together : (n at : ℕ) (s : List ℕ) → together (doubles_at 16 n at s) (doubles_at 16 n (at + 8) s) ≡ doubles_at 8 (2 * n) at s
doubles-together n at s =
    let t = doubles_apart n at s in
    ap₂ together (sym t.0) (sym t.1) ∙ back-together n (doubles_at 8 (2 * n) at s) (length-doubles_at 8 (2 * n) at s)
