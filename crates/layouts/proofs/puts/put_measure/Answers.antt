-- Where the flag is set, the two calls store the range and the values in one.
use Rattle.layouts.proofs.BodyLaws.{measure_stored}
use Rattle.layouts.proofs.puts.put_measure.Goals as goal

pub returns-then-flag : goal.returns-then-flag
returns-then-flag c =
    rw c.if-flag.true
    (measure_stored _ _ _ _ c.write_doubles.new.out c.write_doubles-then-flag.new.out _ c.write_doubles.ensures c.write_doubles-then-flag.ensures)
