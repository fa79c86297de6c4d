-- `header::entries::read_index_entry`: the first of the two that is cut decides.
use Rattle.std.proofs.Common.{rules, SFits, to_z-of_z}
use Rattle.std.specs.Int.{w32}
use Rattle.std.proofs.lemmas.Result.{err_from_is_err_and}
use Rattle.header.specs.Entries.{shape_index}
use Rattle.header.proofs.EntryLaws.{cut_first, cut_second, both_whole}
use Rattle.header.proofs.entries.read_index_entry.Goals as goal

pub returns-in_err-be_i32 : goal.returns-in_err-be_i32
returns-in_err-be_i32 c =
    let e = err_from_is_err_and c.from_residual.result c.from_residual.ensures.1 in
    rw (e.1, e.2) (cut_first shape_index _ _ c.in_err-be_i32.ensures)

pub returns-in_err-be_i32-2 : goal.returns-in_err-be_i32-2
returns-in_err-be_i32-2 c =
    let r = c.from_residual-in_err-be_i32-2 in
    let e = err_from_is_err_and r.result r.ensures.1 in
    rw (e.1, e.2) (cut_second shape_index _ _ _ c.in_ok-be_i32.ensures c.in_err-be_i32-2.ensures)

pub returns : goal.returns
returns c =
    let f : SFits w32 c.in_ok-be_i32.field-0 = search rules in
    let g : SFits w32 c.in_ok-be_i32-2.field-0 = search rules in
    rw (to_z-of_z f, to_z-of_z g) (both_whole shape_index _ _ _ c.in_ok-be_i32.ensures c.in_ok-be_i32-2.ensures)
