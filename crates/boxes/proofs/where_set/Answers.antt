-- The code's 0.0 is the definition's 0.
use Rattle.boxes.proofs.BoxLaws.{zero_is}
use Rattle.boxes.proofs.where_set.Goals as goal

pub returns-else-flag : goal.returns-else-flag
returns-else-flag c = rw c.if-flag.false zero_is
