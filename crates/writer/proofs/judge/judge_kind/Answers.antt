-- One law for each return.
use Rattle.std.proofs.Common.{◌≡◌, rules, true, sym, ◌∙◌, to_z-of_z, FitsSigned}
use Rattle.std.specs.Int.{w32}
use Rattle.std.proofs.lemmas.Result.{err_from_is_err_and}
use Rattle.format.proofs.UnitLaws.{bits_same, bits_differ}
use Rattle.writer.specs.State.{state_fine}
use Rattle.writer.proofs.JudgeLaws.{zero-yes, zero_no, no_kind, no_null, no_match, first_fine, null-fine, same_fine}
use Rattle.writer.proofs.KindLaws.{looked}
use Rattle.writer.proofs.judge.judge_kind.Goals as goal
use Rattle.writer.proofs.judge.judge_kind.Goals.{else-kind-ne0-via-then-kind-ne0+else-held-code, else-kind-ne0-via-else-kind-ne0}

pub returns-in_err-kind : goal.returns-in_err-kind
returns-in_err-kind c =
    let fine : state_fine c.args.state ≡ true = sym c.state_fine.ensures ∙ c.if-not-state_fine.false in
    let p = err_from_is_err_and c.from_residual.result c.from_residual.ensures.1 in
    rw (p.1, p.2) (no_kind _ _ fine _ (looked _ _ c.ranges.code c.look_up.ensures ∙ c.in_err-kind.was))

pub returns-then-kind-eq0 : goal.returns-then-kind-eq0
returns-then-kind-eq0 c =
    let fine : state_fine c.args.state ≡ true = sym c.state_fine.ensures ∙ c.if-not-state_fine.false in
    let found = looked _ _ c.ranges.code c.look_up.ensures ∙ c.in_ok-kind.was in
    let kind_fits : FitsSigned w32 c.args.state.kind = search rules in
    rw (to_z-of_z c.ranges.code) (no_null _ _ fine _ _ found c.if-kind-eq0.true (zero-yes c.args.state.kind kind_fits.sfits c.if-held-eq0.true))

pub returns-else-kind-eq0 : goal.returns-else-kind-eq0
returns-else-kind-eq0 c =
    let fine : state_fine c.args.state ≡ true = sym c.state_fine.ensures ∙ c.if-not-state_fine.false in
    let found = looked _ _ c.ranges.code c.look_up.ensures ∙ c.in_ok-kind.was in
    let kind_fits : FitsSigned w32 c.args.state.kind = search rules in
    first_fine _ _ fine _ _ found c.if-kind-eq0.false (zero-yes c.args.state.kind kind_fits.sfits c.if-held-eq0.true)

pub returns-then-held-code : goal.returns-then-held-code
returns-then-held-code c =
    let fine : state_fine c.args.state ≡ true = sym c.state_fine.ensures ∙ c.if-not-state_fine.false in
    let found = looked _ _ c.ranges.code c.look_up.ensures ∙ c.in_ok-kind.was in
    let kind_fits : FitsSigned w32 c.args.state.kind = search rules in
    rw (to_z-of_z c.ranges.code, to_z-of_z kind_fits)
    (no_match _ _ fine _ _ found c.if-kind-ne0.true (zero_no c.args.state.kind c.if-held-eq0.false) (bits_differ w32 c.args.state.kind c.args.code c.if-held-code.true))

pub returns-else-kind-ne0 : goal.returns-else-kind-ne0
returns-else-kind-ne0 c =
    let fine : state_fine c.args.state ≡ true = sym c.state_fine.ensures ∙ c.if-not-state_fine.false in
    let found = looked _ _ c.ranges.code c.look_up.ensures ∙ c.in_ok-kind.was in
    let kind_fits : FitsSigned w32 c.args.state.kind = search rules in
    let held = zero_no c.args.state.kind c.if-held-eq0.false in
    elim c.else-kind-ne0.branch [
      | else-kind-ne0-via-then-kind-ne0+else-held-code w ↦ same_fine _ _ fine _ _ found w.if-kind-ne0.true held (bits_same w32 _ _ kind_fits c.ranges.code w.if-held-code.false)
      | else-kind-ne0-via-else-kind-ne0 w ↦ null-fine _ _ fine _ _ found w.if-kind-ne0.false held
    ]
