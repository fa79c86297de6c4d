-- The test on the bits is the law of the exponent's field.
use Rattle.std.proofs.Common.{ap, sym, ◌∙◌}
use Rattle.format.specs.Numbers.{finite}
use Rattle.format.proofs.FiniteLaws.{finite-bits}
use Rattle.pair.proofs.leaves.is_finite.Goals as goal

pub returns : goal.returns
returns c = sym (finite-bits c.le_number-bits.result) ∙ ap finite c.le_number-bits.ensures.0
