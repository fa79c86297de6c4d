-- `record::points::double_if`: where the flag is not set the bits are those of 0.
use Rattle.format.proofs.NumberLaws.{zero_bits}
use Rattle.record.proofs.points.double_if.Goals as goal

pub returns-else-flag : goal.returns-else-flag
returns-else-flag c = rw c.if-flag.false zero_bits
