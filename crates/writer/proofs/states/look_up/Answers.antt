-- What each lookup says of the code; the code that an error names is the one that was asked.
use Rattle.std.proofs.Common.{to_z-of_z}
use Rattle.std.proofs.lemmas.Result.{err_from_is_err_and}
use Rattle.writer.proofs.KindLaws.{look_unknown, look-refused, look_taken}
use Rattle.writer.proofs.states.look_up.Goals as goal

pub returns-in_err-kind : goal.returns-in_err-kind
returns-in_err-kind c =
    let p = err_from_is_err_and c.from_residual.result c.from_residual.ensures.1 in
    rw (p.1, p.2) (look_unknown c.args.code _ (rw (to_z-of_z c.ranges.code) at c.in_err-kind.ensures))

pub returns-in_err-lengths : goal.returns-in_err-lengths
returns-in_err-lengths c =
    let p = err_from_is_err_and c.from_residual-in_err-lengths.result c.from_residual-in_err-lengths.ensures.1 in
    let k = rw (to_z-of_z c.ranges.code) at c.in_ok-kind.ensures in
    let l = rw (to_z-of_z c.ranges.code) at c.in_err-lengths.ensures in
    rw (p.1, p.2) (look-refused c.args.code _ k _ l)

pub returns : goal.returns
returns c =
    let k = rw (to_z-of_z c.ranges.code) at c.in_ok-kind.ensures in
    let l = rw (to_z-of_z c.ranges.code) at c.in_ok-lengths.ensures in
    look_taken c.args.code _ k _ l
