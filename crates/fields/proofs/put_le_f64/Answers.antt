-- `fields::put_le_f64`: the bytes of the double's bits go in.
use Rattle.format.proofs.Equations.{double-is, f64_le-is}
use Rattle.fields.proofs.put_le_f64.Goals as goal

pub returns : goal.returns
returns c = rw (f64_le-is, double-is) (cc)
