-- By the code, the unused bytes and the version.
use Rattle.std.proofs.Common.{sym, ◌∙◌, ap, eqb}
use borrow.Author.Tests.{eq-eqb, ne_eqb, eqb-true}
use Rattle.format.specs.Bytes.{field}
use Rattle.pair.proofs.ByteLaws.{same_is}
use Rattle.pair.proofs.heads.starts_right.Goals.{then-big-eq9994, else-big-eq9994}
use Rattle.pair.proofs.heads.starts_right.Goals as goal

pub returns-then-eq : goal.returns-then-eq
unfolding field
returns-then-eq c =
    elim c.if-big-eq9994.branch [
      | then-big-eq9994 w ↦
          rw (← c.big.ensures.value, eq-eqb _ _ w.if-big-eq9994.true, ← same_is, ← w.eq.ensures, ← w.value-is, c.if-eq.true)
          (ap (λ n. eqb n 1000) c.little.ensures.value)
      | else-big-eq9994 w ↦ absurd (w.if-big-eq9994.false (eqb-true _ _ (sym w.value-is ∙ c.if-eq.true)))
    ]

pub returns-else-eq : goal.returns-else-eq
unfolding field
returns-else-eq c =
    elim c.if-big-eq9994.branch [
      | then-big-eq9994 w ↦ rw (← c.big.ensures.value, eq-eqb _ _ w.if-big-eq9994.true, ← same_is, ← w.eq.ensures, ← w.value-is, c.if-eq.false)
      | else-big-eq9994 w ↦ rw (← c.big.ensures.value, ne_eqb _ _ w.if-big-eq9994.false, c.if-eq.false)
    ]
