-- `header::bbox::box_at`: the array holds the eight doubles in file order.
use Rattle.header.proofs.ReadLaws.{boxed}
use Rattle.header.proofs.bbox.box_at.Goals as goal

pub returns : goal.returns
returns c = boxed _ _ _ _ c.read_doubles.ensures
