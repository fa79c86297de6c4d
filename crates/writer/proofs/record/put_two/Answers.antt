-- The content's words go in behind the first number.
use Rattle.std.proofs.Common.{rules, FitsSigned}
use Rattle.std.specs.Int.{w32}
use Rattle.writer.proofs.StoreLaws.{two_put}
use Rattle.writer.proofs.record.put_two.Goals as goal

pub returns : goal.returns
returns c =
    let content_fits : FitsSigned w32 c.args.content.0 = search rules in
    two_put c.args.out.now c.put_be_i32.new.out _ c.args.first c.args.content.0 c.ranges.first content_fits c.put_be_i32.ensures c.put_be_i32-2.ensures
