-- The verdict by the headers: what the first fault in them makes of it, and that without one the records have it.
use mathlib.Core.Path.{◌≡◌, sym, ◌∙◌}
use mathlib.Core.List.{List}
use mathlib.Core.Option.{none, some}
use Prim.Native.Nat.{ℕ, ◌≤◌}
use native.Mathlib.Omega.{arith}
use lib.ListN.{length, take, drop}
use borrow.Author.Tests.{leb-true}
use Rattle.std.specs.Prelude.{Err}
use Rattle.format.specs.Order.{first}
use Rattle.format.specs.Said.{fault}
use Rattle.format.proofs.OrderLaws.{no_fault}
use Rattle.rules.specs.Rules.{Taken, taken_in, headers_rules, headers_fault, walk_from, none_yet, verdict}
use Rattle.rules.proofs.FirstFault.{front-first, then_others}
use Rattle.rules.proofs.VerdictLaws.{fault_on, verdict-is, verdict-walk}
use Rattle.pair.specs.declared.Fault.{Fault}
use Rattle.pair.specs.Verdicts.{front_fault, back_fault, found}
use Rattle.pair.proofs.FoundLaws.{found_fault}

module _ (shp shx : List ℕ) where
  faulty : (r : ℕ) → headers_fault shp shx ≡ r → (r ≡ 0 → ⊥) → fault r 0 ≡ verdict shp shx
  faulty r e n = sym (verdict-is shp shx ∙ rw e (fault_on r 0 _ (omega (arith, n))))

  first_of : (r : ℕ) → front_fault shp shx ≡ r → (r ≡ 0 → ⊥) → fault r 0 ≡ verdict shp shx
  unfolding front_fault
  first_of r e n = faulty r (front-first shp shx r e n) n

  pub by_front : (f : Fault) → Err f ≡ found (tt {0}) (front_fault shp shx) 0 → fault f.rule f.record ≡ verdict shp shx
  by_front f e = let q = found_fault _ _ _ f e in rw q.1 (first_of f.rule q.0 q.2)

  module _ (front : 0 ≡ front_fault shp shx) where
    further : headers_fault shp shx ≡ first (drop 3 (headers_rules shp shx)) 0
    unfolding front_fault
    further = then_others shp shx (sym front)

    pub both_long : (100 ≤ length shp) × (100 ≤ length shx)
    unfolding front_fault
    both_long =
        let met = no_fault (take 3 (headers_rules shp shx)) tt (sym front) in
        (leb-true 100 (length shp) (met 0), leb-true 100 (length shx) (met 1))

    pub by-kind : taken_in shp ≡ none → fault 4 0 ≡ verdict shp shx
    by-kind e = faulty 4 (further ∙ rw e) (λ z. omega arith)

    module _ (t : Taken) (is : taken_in shp ≡ some t) where
      last : headers_fault shp shx ≡ back_fault shp shx
      unfolding back_fault
      last = further ∙ rw is

      pub by_back : (f : Fault) → Err f ≡ found (tt {0}) (back_fault shp shx) 0 → fault f.rule f.record ≡ verdict shp shx
      by_back f e = let q = found_fault _ _ _ f e in rw q.1 (faulty f.rule (last ∙ q.0) q.2)

      pub by_records : 0 ≡ back_fault shp shx → walk_from t (drop 100 shp) (drop 100 shx) 100 none_yet ≡ verdict shp shx
      by_records e = sym (verdict-walk shp shx t (last ∙ sym e) is)
