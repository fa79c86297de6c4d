-- `fields::checked::whole`: what is present of a field that is cut is all that stands behind its place.
use Rattle.std.proofs.Common.{ℕ, ◌+◌, ◌≤◌, length, sym, ap, arith, ◌∙◌}
use borrow.Author.Tests.{lt-leb}
use Rattle.format.specs.declared.shapes.Short.{Short}
use Rattle.format.proofs.ByteLaws.{length_cut}
use Rattle.fields.proofs.checked.whole.Goals as goal

short_at : ℕ → ℕ → Short
short_at at present = record { at = at; present = present }

pub returns-then-present-width : goal.returns-then-present-width
unfolding short_at
returns-then-present-width c =
    let a = c.args in
    let cut : length a.s.now ≤ a.at + a.width = omega arith in
    (lt-leb _ _ (omega arith), ap (short_at a.at) (c.saturating_sub-present.ensures ∙ sym (length_cut a.width a.at a.s.now cut)))
