-- The first rule that is broken, by where the rules are parted: P1 to P3 before the others of the headers, and a record's head before its content.
use mathlib.Core.Path.{◌≡◌, refl}
use mathlib.Core.List.{List}
use Prim.Native.Nat.{ℕ}
use lib.IntN.{pos}
use lib.ListN.{take, drop}
use Rattle.format.specs.Kinds.{kind_at}
use Rattle.format.specs.Order.{first}
use Rattle.format.proofs.OrderLaws.{no_fault_then, fault-first}
use Rattle.rules.specs.Rules.{Taken, little_at, taken_of, taken_in, headers_rules, headers_fault, head_rules, own_taken, content_rules, record_fault}

module _ (shp shx : List ℕ) where
  pub front-first : (r : ℕ) → first (take 3 (headers_rules shp shx)) 0 ≡ r → (r ≡ 0 → ⊥) → headers_fault shp shx ≡ r
  unfolding headers_fault
  front-first r e n = fault-first (take 3 (headers_rules shp shx)) (drop 3 (headers_rules shp shx)) r e n

  pub then_others : first (take 3 (headers_rules shp shx)) 0 ≡ 0 → headers_fault shp shx ≡ first (drop 3 (headers_rules shp shx)) 0
  unfolding headers_fault
  then_others e = no_fault_then (take 3 (headers_rules shp shx)) tt e (drop 3 (headers_rules shp shx))

-- what P4 looks for
pub taken_is : (shp : List ℕ) → taken_in shp ≡ taken_of (kind_at (pos (little_at 32 shp)))
unfolding taken_in
taken_is shp = refl

module _ (t : Taken) (l x : List ℕ) (at k : ℕ) where
  pub head_first : (r : ℕ) → first (head_rules t.kind l x at k) 0 ≡ r → (r ≡ 0 → ⊥) → record_fault t l x at k ≡ r
  unfolding record_fault
  head_first r e n = fault-first (head_rules t.kind l x at k) (content_rules (own_taken t l) l) r e n

  pub then_content : first (head_rules t.kind l x at k) 0 ≡ 0 → record_fault t l x at k ≡ first (content_rules (own_taken t l) l) 0
  unfolding record_fault
  then_content e = no_fault_then (head_rules t.kind l x at k) tt e (content_rules (own_taken t l) l)
