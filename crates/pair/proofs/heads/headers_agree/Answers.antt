-- By the bytes before the length, and then those behind it.
use Rattle.std.proofs.Common.{◌∙◌}
use Rattle.format.specs.Bytes.{field}
use Rattle.pair.proofs.ByteLaws.{same_is}
use Rattle.pair.proofs.heads.headers_agree.Goals as goal

pub returns-then-eq : goal.returns-then-eq
unfolding field
returns-then-eq c = rw (← same_is, ← c.eq.ensures, c.if-eq.true) (c.eq-then-eq.ensures ∙ same_is _ _)

pub returns-else-eq : goal.returns-else-eq
unfolding field
returns-else-eq c = rw (← same_is, ← c.eq.ensures, c.if-eq.false)
