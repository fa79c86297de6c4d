-- `header::header_bytes`: the lookup says whether the kind is known.
use Rattle.std.proofs.Common.{rules, ap, SFits, to_z-of_z, ◌∙◌}
use Rattle.std.specs.Int.{w32}
use Rattle.std.proofs.lemmas.Result.{err_from_is_err_and}
use Rattle.format.specs.Kinds.{kind_of}
use Rattle.format.proofs.KindLaws.{known_found, named_code}
use Rattle.header.proofs.header_bytes.Goals as goal

pub returns-in_err-find_kind : goal.returns-in_err-find_kind
returns-in_err-find_kind c =
    let f : SFits w32 c.args.h.shape_type = search rules in
    let looked = c.find_kind.ensures ∙ ap kind_of (to_z-of_z f) in
    let e = err_from_is_err_and c.from_residual.result c.from_residual.ensures.1 in
    rw (e.1, e.2, known_found _ _ looked _ c.in_err-find_kind.was, named_code _ _ looked _ c.in_err-find_kind.was)

pub returns : goal.returns
returns c =
    let f : SFits w32 c.args.h.shape_type = search rules in
    rw (known_found _ _ (c.find_kind.ensures ∙ ap kind_of (to_z-of_z f)) _ c.in_ok-find_kind.was, c.whole_bytes.ensures)
