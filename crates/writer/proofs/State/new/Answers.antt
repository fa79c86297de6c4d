-- `State::new`: the box of zeros.
use Rattle.format.proofs.NumberLaws.{zero_bits}
use Rattle.writer.proofs.State.new.Goals as goal

pub returns : goal.returns
returns c =
    let d = c.default.ensures in
    rw (d.0, d.1.0, d.1.1.0, d.1.1.1.0, d.1.1.1.1.0, d.1.1.1.1.1.0, d.1.1.1.1.1.1.0, d.1.1.1.1.1.1.1, zero_bits)
