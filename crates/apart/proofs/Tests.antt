-- The tests of lengths, where what was asked of one store of pairs is asked of the two; and what a refusal leaves.
use mathlib.Core.Path.{◌≡◌, refl, ap, ◌∙◌}
use mathlib.Core.Bool.{Bool, true, false, ◌&&◌}
use mathlib.Core.List.{List}
use Prim.Native.Nat.{ℕ, ◌*◌, ◌≤◌}
use native.Mathlib.Omega.{arith}
use lib.Dec.{leb}
use lib.Ieee.{Float}
use lib.ListN.{length}
use borrow.Author.Tests.{le-leb, leb-true, leb-false}
use Rattle.format.specs.Said.{Said, gives, refuses, unless_refused}
use Rattle.apart.specs.Pairs.{all_x, all_y, together}
use Rattle.apart.proofs.Lists.{length-x, length-y, length-together}

-- one test that is two, among others
and_both : (a b c : Bool) → (a && (b && c)) ≡ (a && b && c)
and_both true b c = refl
and_both false b c = refl

pub among : (p t u v a b : Bool) → t ≡ (u && v) → (p && t && a && b) ≡ (p && u && v && a && b)
among p t u v a b e = ap (λ (x : Bool). x && a && b) (ap (λ (x : Bool). p && x) e ∙ and_both p u v)

-- a store of so many entries has room for n pairs just where the other two have room for n each
abbrev pub Halves : ℕ → ℕ → ℕ → Type 0
Halves xy x y = (n : ℕ) → leb (2 * n) xy ≡ (leb n x && leb n y)

-- as it is where y is the smaller half, or both are cut to the smaller one
by_least : (xy x y : ℕ) → ((n : ℕ) → 2 * n ≤ xy → (n ≤ x) × (n ≤ y)) → ((n : ℕ) → n ≤ x → n ≤ y → 2 * n ≤ xy) → Halves xy x y
by_least xy x y f g n = by (leb (2 * n) xy) refl
  where
    by : (t : Bool) → leb (2 * n) xy ≡ t → t ≡ (leb n x && leb n y)
    by true e =
        let h = f n (leb-true (2 * n) xy e) in
        rw (le-leb n x h.0, le-leb n y h.1)
    by false e = no (leb n x) (leb n y) refl refl
      where
        no : (a b : Bool) → leb n x ≡ a → leb n y ≡ b → false ≡ (a && b)
        no true true p q = absurd (let h = g n (leb-true n x p) (leb-true n y q) in let k = leb-false (2 * n) xy e in omega arith)
        no true false p q = refl
        no false b p q = refl

pub apart_halves : (xy : List Float) → Halves (length xy) (length (all_x xy)) (length (all_y xy))
apart_halves xy = by_least _ _ _ (λ n h. (omega (arith, length-x xy), omega (arith, length-y xy))) (λ n h g. omega (arith, length-y xy))

pub together_halves : (xs ys : List Float) → Halves (length (together xs ys)) (length xs) (length ys)
together_halves xs ys = by_least _ _ _ (λ n h. (omega (arith, length-together xs ys), omega (arith, length-together xs ys))) (λ n h g. omega (arith, length-together xs ys))

-- ---- a refusal leaves what it finds, taken apart or put together
module _ {A : Type 0} where
  pub unless_one : (said : Said A) (f : List Float → List Float) (a b c : List Float) → f b ≡ c → f (unless_refused said a b) ≡ unless_refused said (f a) c
  unless_one (gives x) f a b c e = e
  unless_one (refuses n vs) f a b c e = refl

  pub unless_two : (said : Said A) (f : List Float → List Float → List Float) (a b c d e : List Float) → f b d ≡ e → f (unless_refused said a b) (unless_refused said c d) ≡ unless_refused said (f a c) e
  unless_two (gives x) f a b c d e p = p
  unless_two (refuses n vs) f a b c d e p = refl
