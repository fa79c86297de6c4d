-- The calls store the front in one.
use Rattle.layouts.proofs.BodyLaws.{front-stored}
use Rattle.layouts.proofs.puts.put_front.Goals as goal

pub returns : goal.returns
returns c = front-stored _ _ _ _ _ c.write_doubles.new.out c.put_counts.new.out c.write_doubles.ensures c.put_counts.ensures
