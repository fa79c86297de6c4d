-- By what the two lookups find.
use mathlib.Core.Path.{◌≡◌, ap, ◌∙◌}
use mathlib.Core.Option.{some}
use mir.Syntax.{w32}
use mir.ValLaws.{to_z-of_z}
use Rattle.format.specs.Kinds.{kind_of, kind_at}
use Rattle.format.specs.Lengths.{content_of}
use Rattle.pair.proofs.PlanLaws.{no_kind, one_kind, no_lengths, these_lengths, is-taken}
use Rattle.pair.proofs.plans.plan_of.Goals.{In_ok-kind}
use Rattle.pair.proofs.plans.plan_of.Goals as goal

kind_is : (c : In_ok-kind) → kind_at c.args.code ≡ some c.in_ok-kind.kind
kind_is c = one_kind c.args.code _ _ (c.find_kind.ensures ∙ ap kind_of (to_z-of_z w32 _ c.ranges.code)) c.in_ok-kind.ensures.value

pub returns-in_err-kind : goal.returns-in_err-kind
returns-in_err-kind c =
    c.from_residual.ensures ∙ no_kind c.args.code _ (c.find_kind.ensures ∙ ap kind_of (to_z-of_z w32 _ c.ranges.code)) c.in_err-kind.ensures.value

pub returns-in_err-lengths : goal.returns-in_err-lengths
returns-in_err-lengths c =
    let e = c.lengths_of.ensures ∙ ap content_of (to_z-of_z w32 _ c.ranges.code) in
    c.from_residual-in_err-lengths.ensures
    ∙ no_lengths c.args.code _ (kind_is (goal.at.returns-in_err-lengths c).In_ok-kind) _ e c.in_err-lengths.ensures.value

pub returns : goal.returns
returns c =
    let k = kind_is (goal.at.returns c).In_ok-kind in
    let e = c.lengths_of.ensures ∙ ap content_of (to_z-of_z w32 _ c.ranges.code) in
    is-taken c.args.code _ _ _ _ _ _ _ k (these_lengths c.args.code _ k _ _ e c.in_ok-lengths.ensures.value)
    c.has_several-several.ensures
    c.points_alone.ensures
    c.front_words.ensures
    c.has_rings-rings.ensures
    c.least_points.ensures
