-- The code's 0.0 is the definition's 0.
use Rattle.std.proofs.Common.{arith}
use Rattle.boxes.proofs.BoxLaws.{zero_is}
use Rattle.boxes.proofs.first_or_zero.Goals as goal

pub returns : goal.returns
returns c = rw (c.unwrap_or.ensures, c.copied.ensures, ← zero_is) (c.first.ensures.item.4 (omega arith) _)
