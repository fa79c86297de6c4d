-- A shape of zeros.
use Rattle.format.proofs.NumberLaws.{zero_bits}
use Rattle.export.proofs.records.no_shape.Goals as goal

pub returns : goal.returns
returns c =
    let p = c.default.ensures in
    let b = c.default-2.ensures in
    rw (p.0, p.1.0, p.1.1.0, p.1.1.1, b.0.0, b.0.1.0, b.0.1.1.0, b.0.1.1.1, b.1.0.0, b.1.0.1, b.1.1.0.0, b.1.1.0.1, b.1.1.1.0, b.1.1.1.1, zero_bits)
