-- `rings::ring_type_from_points_ordering` meets its contract: after the loop no neighbours are left to add.
use Rattle.std.proofs.Common.{◌≡◌, sym, ◌∙◌, true, false, inl, inr}
use native.Mathlib.Nat.{sub-zero}
use Rattle.format.proofs.NumberLaws.{zero_bits}
use Rattle.rings.specs.Points.{number, products, plus}
use Rattle.rings.proofs.AnswerLaws.{turning_past, turning-is}
use Rattle.rings.proofs.PointLaws.{points_from, sum_turn, sum_end}
use Rattle.rings.proofs.ring_type_from_points_ordering.Goals as goal
use Rattle.rings.proofs.ring_type_from_points_ordering.Goals.{After-loop-i}

pub returns-then-xs-n : goal.returns-then-xs-n
returns-then-xs-n c = turning_past _ _ _ (inl c.if-xs-n.true)

pub returns-then-ys-n : goal.returns-then-ys-n
returns-then-ys-n c = turning_past _ _ _ (inr (c.if-xs-n.false, c.if-ys-n.true))

pub loop-i-init : goal.loop-i-init
loop-i-init c = rw (sub-zero, zero_bits)

pub loop-i-preserved : goal.loop-i-preserved
loop-i-preserved c = sum_turn _ _ _ _ _ c.loop-i.auto.i c.loop-i-test.true ∙ c.loop-i.invariant

-- the whole sum
summed : (c : After-loop-i) → (let a = c.args in c.loop-i.sum ≡ plus (number 0) (products (points_from a.xs.now a.ys.now 0 a.n)))
summed c = sym (sum_end _ _ _ _ _ c.loop-i-test.false) ∙ c.loop-i.invariant

pub returns-then-sum : goal.returns-then-sum
returns-then-sum c = turning-is _ _ _ _ true c.if-xs-n.false c.if-ys-n.false (summed (goal.at.returns-then-sum c).After-loop-i) c.if-sum.true

pub returns-else-sum : goal.returns-else-sum
returns-else-sum c = turning-is _ _ _ _ false c.if-xs-n.false c.if-ys-n.false (summed (goal.at.returns-else-sum c).After-loop-i) c.if-sum.false
