-- `multipart::store::range_at`: a range of zeros, where the flag is not set.
use Rattle.format.proofs.NumberLaws.{zero_bits}
use Rattle.multipart.proofs.store.range_at.Goals as goal

pub returns-else-flag : goal.returns-else-flag
returns-else-flag c = rw (c.if-flag.false, c.default.ensures.0, c.default.ensures.1, zero_bits)
