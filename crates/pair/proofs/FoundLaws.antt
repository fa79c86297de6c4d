-- What a test of several rules answers: no fault where the first broken rule is 0, and else that rule with its record.
use mathlib.Core.Path.{◌≡◌, refl}
use Prim.Native.Nat.{ℕ, zero, suc}
use native.Mathlib.Omega.{arith}
use Rattle.std.specs.Prelude.{Ok, Err}
use Rattle.pair.specs.declared.Fault.{Fault}
use Rattle.pair.specs.Verdicts.{found}

module _ {A : Type 0} (a : A) where
  pub found_none : (b : A) (r k : ℕ) → Ok b ≡ found a r k → (0 ≡ r) × (b ≡ a)
  found_none b zero k e = (refl, cc)
  found_none b (suc r) k e = cc

  pub found_fault : (r k : ℕ) (f : Fault) → Err f ≡ found a r k → (r ≡ f.rule) × (f.record ≡ k) × (f.rule ≡ 0 → ⊥)
  found_fault zero k f e = cc
  found_fault (suc r) k f e = (cc, cc, λ z. let q : f.rule ≡ suc r = cc in omega arith)
