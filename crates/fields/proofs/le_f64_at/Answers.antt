-- `fields::le_f64_at`: the double is that of the field's bits.
use Rattle.format.proofs.Equations.{le_f64-is}
use Rattle.fields.proofs.le_f64_at.Goals as goal

pub returns : goal.returns
returns c = rw le_f64-is (cc)
