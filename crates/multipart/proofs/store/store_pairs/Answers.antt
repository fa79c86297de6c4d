-- `multipart::store::store_pairs`: at each turn the x and the y that are left complete both stores.
use Rattle.std.proofs.Common.{◌+◌, ◌*◌, ◌-◌, ℕ, List, sym, ap, ◌∙◌}
use lib.Ieee.{Float}
use lib.ListN.{set, length-set}
use lib.Seq.{sets}
use Rattle.format.specs.Numbers.{doubles_at}
use Rattle.format.proofs.NumberLaws.{doubles_turn, doubles_over}
use Rattle.multipart.proofs.store.store_pairs.Goals as goal

-- a store with this double at place i, and those that are left behind it
abbrev stored : List Float → ℕ → ℕ → ℕ → List ℕ → Float → List Float
stored store i points at s v = sets (set store i v) (i + 1) (doubles_at 16 (points - (i + 1)) (at + 16 * (i + 1)) s)

pub loop-i-preserved : goal.loop-i-preserved
loop-i-preserved c =
    let l = c.loop-i in
    let a = c.args in
    record {
      same_xs = simp length-set l.invariant.same_xs;
      same_ys = simp length-set l.invariant.same_ys;
      xs_left = ap (stored l.xs l.i a.points a.at a.s.now) c.le_f64_at-x.ensures ∙ (doubles_turn 16 _ _ _ _ _ c.loop-i-test.true ∙ l.invariant.xs_left);
      ys_left = ap (stored l.ys l.i a.points (a.at + 8) a.s.now) c.le_f64_at-y.ensures ∙ (doubles_turn 16 _ _ _ _ _ c.loop-i-test.true ∙ l.invariant.ys_left);
    }

pub returns : goal.returns
returns c =
    let l = c.loop-i in (
      sym (doubles_over 16 _ _ _ _ _ c.loop-i-test.false) ∙ l.invariant.xs_left,
      sym (doubles_over 16 _ _ _ _ _ c.loop-i-test.false) ∙ l.invariant.ys_left,
    )
