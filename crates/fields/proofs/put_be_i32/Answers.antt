-- `fields::put_be_i32`: the bytes of the number's bits go in.
use Rattle.std.specs.Int.{w32}
use Rattle.format.proofs.Equations.{big-is, i32_be-is}
use Rattle.format.proofs.SignLaws.{back}
use Rattle.fields.proofs.put_be_i32.Goals as goal

pub returns : goal.returns
returns c = rw (i32_be-is, big-is) (cc (back w32 c.args.z c.ranges.z.sfits))
