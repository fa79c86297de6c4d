-- The calls store the counts and starts in one.
use Rattle.layouts.proofs.BodyLaws.{counts-stored, number-stored}
use Rattle.layouts.proofs.puts.put_counts.Goals as goal

pub returns-then-parts : goal.returns-then-parts
returns-then-parts c =
    counts-stored _ _ _ c.if-parts.true _ c.put_le.new.out c.put_le-then-parts.new.out c.put_starts.new.out c.put_le.ensures c.put_le-then-parts.ensures c.put_starts.ensures

pub returns-else-parts : goal.returns-else-parts
returns-else-parts c = number-stored _ _ _ c.if-parts.false _ c.put_le-else-parts.new.out c.put_le-else-parts.ensures
