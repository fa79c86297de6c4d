-- `row_of` meets its contract: the place that the search gives is the row.
use Rattle.std.proofs.Common.{◌≡◌, ◌∙◌, refl, sym, ap, rules, tests, eqb, ℕ, ℤ, pos, negsuc, nat_abs, Result, Ok, Err, Some}
use mir.Syntax.{w32}
use mir.ValLaws.{to_z-of_z}
use Rattle.std.proofs.lemmas.Iterator.{YieldsList-from_slice}
use Rattle.std.proofs.lemmas.Iterator.Search.{position_from_yields_List}
use Rattle.std.specs.Int.{FitsUnsignedBits}
use Rattle.std.specs.Result.{OkIff, result_ok}
use Rattle.format.specs.Kinds.{kinds, row_at}
use Rattle.format.proofs.KindLaws.{row_found}
use Rattle.format.proofs.kinds.row_of.Goals as goal

-- a code that is taken is no negative one
taken : {E : Type 0} (r : Result ℕ E) (z : ℤ) (n : ℕ) → OkIff r (FitsUnsignedBits 32 z) (nat_abs z) → result_ok r ≡ Some n → z ≡ pos n
taken (Ok x) (pos m) n fits e = cc
taken (Ok x) (negsuc m) n fits e = absurd fits.0
taken (Err d) z n fits e = cc

pub returns-clause-row : goal.returns-clause-row
unfolding kinds
returns-clause-row c =
    let code = c.in_ok-code.code in
    let found = position_from_yields_List (λ k. eqb k.code code) _ _ c.position.result c.position.ensures.ran (YieldsList-from_slice _ c.iter.ensures.rest) (λ x b q k. search (rules, tests)) in
    let z = taken c.try_from.result _ code c.try_from.ensures (sym c.ok.ensures.value ∙ c.in_ok-code.was) in
    row_found code kinds _ found refl ∙ ap row_at (sym z ∙ to_z-of_z w32 c.args.code c.ranges.code)
