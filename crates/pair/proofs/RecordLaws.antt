-- The first rule that a record breaks, by the first that its head breaks: the head's come before the content's.
use mathlib.Core.Path.{◌≡◌}
use mathlib.Core.Bool.{true}
use mathlib.Core.List.{List}
use Prim.Native.Nat.{ℕ}
use Rattle.format.specs.declared.kinds.Kind.{Kind}
use Rattle.format.specs.Order.{first}
use Rattle.format.proofs.OrderLaws.{ok_at, no_fault}
use Rattle.rules.specs.Rules.{Taken, head_rules, own_taken, content_rules, record_fault}
use Rattle.rules.proofs.FirstFault.{head_first, then_content}
use Rattle.pair.specs.Verdicts.{head_fault}

module _ (t : Taken) (l x : List ℕ) (at k : ℕ) where
  pub by_head : (r : ℕ) → head_fault t.kind l x at k ≡ r → (r ≡ 0 → ⊥) → record_fault t l x at k ≡ r
  unfolding head_fault
  by_head r e n = head_first t l x at k r e n

  pub by_content : head_fault t.kind l x at k ≡ 0 → record_fault t l x at k ≡ first (content_rules (own_taken t l) l) 0
  unfolding head_fault
  by_content e = then_content t l x at k e

pub head_met : (h : Kind) (l x : List ℕ) (at k : ℕ) → head_fault h l x at k ≡ 0 → (i : ℕ) → ok_at i (head_rules h l x at k) ≡ true
unfolding head_fault
head_met h l x at k e i = no_fault (head_rules h l x at k) tt e i
