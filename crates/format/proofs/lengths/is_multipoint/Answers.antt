-- `format::lengths::is_multipoint` meets its contract: by the codes of the match.
use mathlib.Core.Logic.{inl, inr, ⊎_elim}
use borrow.Author.Tests.{ne_eqb}
use Rattle.format.specs.Lengths.{is_multipoint}
use Rattle.format.proofs.lengths.is_multipoint.Goals as goal

pub returns-in-8 : goal.returns-in-8
unfolding is_multipoint
returns-in-8 c = ⊎_elim (λ e. rw e) (⊎_elim (λ e. rw e) (λ e. rw e)) c.in-8.is

pub returns-in_default : goal.returns-in_default
unfolding is_multipoint
returns-in_default c =
    let n = c.in_default.in_default-own.rest.1 in
    rw (ne_eqb _ 8 (λ e. n (inl e)), ne_eqb _ 18 (λ e. n (inr (inl e))), ne_eqb _ 28 (λ e. n (inr (inr e))))
