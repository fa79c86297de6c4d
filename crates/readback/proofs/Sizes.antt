-- The size of a content with several points says whether m is there: the formulas with and without it never agree.
use mathlib.Core.Path.{◌≡◌, refl, sym}
use mathlib.Core.Bool.{Bool, true, false, ◌&&◌, ◌||◌, or-true}
use Prim.Native.Nat.{ℕ, ◌*◌}
use native.Mathlib.Omega.{arith}
use lib.Dec.{eqb}
use borrow.Author.Tests.{eq-eqb, ne_eqb}
use Rattle.format.specs.Lengths.{several_form, content_words}
use Rattle.format.proofs.Laid.{several-words}

-- a content's bytes with m or without
abbrev bytes_of : Bool → Bool → ℕ → ℕ → Bool → ℕ
bytes_of f z p n m = 2 * content_words (several_form f) z m p n

-- of a kind with m or without, where the content has it or not
module _ (f z : Bool) (p n : ℕ) (none : f ≡ false → p ≡ 0) where
  pub m-there : (m q : Bool) → (m ≡ false → q ≡ false) → (m && eqb (bytes_of f z p n q) (bytes_of f z p n true)) ≡ q
  m-there false q h = sym (h refl)
  m-there true true h = eq-eqb (bytes_of f z p n true) (bytes_of f z p n true) refl
  m-there true false h = ne_eqb (bytes_of f z p n false) (bytes_of f z p n true) (λ d. omega (arith, several-words f z true p n none, several-words f z false p n none))

  pub formula-there : (q : Bool) → (eqb (bytes_of f z p n q) (bytes_of f z p n false) || q) ≡ true
  formula-there true = or-true (eqb (bytes_of f z p n true) (bytes_of f z p n false))
  formula-there false = rw (eq-eqb (bytes_of f z p n false) (bytes_of f z p n false) refl)
