-- `header::entries::index_entry_bytes`: the two numbers are those of the fields.
use Rattle.std.proofs.Common.{rules, SFits}
use Rattle.std.specs.Int.{w32}
use Rattle.header.proofs.EntryLaws.{both_written}
use Rattle.header.proofs.entries.index_entry_bytes.Goals as goal

pub returns : goal.returns
returns c =
    let f : SFits w32 c.args.e.offset.0 = search rules in
    let g : SFits w32 c.args.e.content_length.0 = search rules in
    both_written _ _ _ f g c.two_bytes.ensures
