-- `multipart::store::store_counts`: at each turn the counts that are left complete the store's front.
use Rattle.std.proofs.Common.{sym, ◌∙◌, arith, w32}
use Rattle.std.proofs.Math.Nat.{sub-zero}
use Rattle.std.proofs.lemmas.Int.{to_z_pos}
use lib.Seq.{length-take-le}
use Rattle.format.proofs.LayoutLaws.{sets_all}
use Rattle.multipart.proofs.StoreLaws.{counts_turn, counts_end, length-counts, front-back}
use Rattle.multipart.proofs.store.store_counts.Goals as goal

pub loop-i-init : goal.loop-i-init
loop-i-init c =
    let a = c.args in
    rw sub-zero (sets_all _ _ (length-counts _ _ _ _ ∙ sym (length-take-le _ a.counts.now c.requires.2)))

pub loop-i-preserved : goal.loop-i-preserved
loop-i-preserved c =
    let a = c.args in
    let told = rw (to_z_pos w32 a.said.points c.requires.1) at c.count_at.ensures in
    counts_turn _ _ _ _ _ _ (omega (arith, length-take-le _ a.counts.now c.requires.2)) told ∙ c.loop-i.invariant

pub returns-after-loop-i : goal.returns-after-loop-i
returns-after-loop-i c =
    let a = c.args in
    let all = sym (counts_end _ _ _ _ _ (omega (arith, length-take-le _ a.counts.now c.requires.2))) ∙ c.loop-i.invariant in
    rw (c.if-parts.true, all) (front-back _ a.counts.now _ (length-counts _ _ _ _) c.requires.2)
