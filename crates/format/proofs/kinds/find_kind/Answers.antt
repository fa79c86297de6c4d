-- `find_kind` meets its contract: the table has the kind at the row.
use mathlib.Core.Path.{◌≡◌, sym, ap, ◌∙◌}
use native.Mathlib.Omega.{arith}
use borrow.Author.Rules.{rules}
use mir.Syntax.{w32}
use mir.Val.{to_z, of_z}
use mir.ValLaws.{to_z-of_z}
use Rattle.format.specs.Kinds.{kinds, kinds_passed, row_at, or_unknown}
use Rattle.format.specs.Said.{unknown}
use Rattle.format.proofs.KindLaws.{kind-in, kind-out, kind_of_is}
use Rattle.format.proofs.kinds.find_kind.Goals as goal
use Rattle.format.proofs.kinds.find_kind.Goals.{Start}

-- the code that an answer carries is the one that was asked
back : (a : Start) → to_z w32 (of_z w32 a.args.code) ≡ a.args.code
back a = to_z-of_z w32 a.args.code a.ranges.code

pub returns-in-Some : goal.returns-in-Some
unfolding kinds
returns-in-Some c =
    let b = back (goal.at.returns-in-Some c).Start in
    let z = c.args.code in
    let r = ap kinds_passed (sym c.in-Some.is) ∙ (c.row_of.ensures.row ∙ ap row_at b) in
    sym (kind_of_is z ∙ ap (or_unknown z) (kind-in z c.in-Some.row r _ (search rules)))

pub returns-in-None : goal.returns-in-None
unfolding kinds
returns-in-None c =
    let b = back (goal.at.returns-in-None c).Start in
    let z = c.args.code in
    let r = ap kinds_passed (sym c.in-None.is) ∙ (c.row_of.ensures.row ∙ ap row_at b) in
    ap unknown b ∙ sym (kind_of_is z ∙ ap (or_unknown z) (kind-out z 14 r (omega arith)))
