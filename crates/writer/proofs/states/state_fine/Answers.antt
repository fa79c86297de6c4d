-- By the kind that was found, and by the numbers without their signs.
use Rattle.std.proofs.Common.{rules, ◌∙◌, eqb, to_z-of_z, FitsSigned}
use Rattle.std.specs.Int.{w32}
use Rattle.writer.specs.Judging.{natural_of, counts_fine}
use Rattle.writer.proofs.KindLaws.{looked}
use Rattle.writer.proofs.StateLaws.{fine-taken, fine_no}
use Rattle.writer.proofs.states.state_fine.Goals as goal

pub returns-in-Ok : goal.returns-in-Ok
returns-in-Ok c =
    let a = c.args.s in
    let kind_fits : FitsSigned w32 a.kind = search rules in
    let number_fits : FitsSigned w32 a.number = search rules in
    c.counts_fine.ensures
    ∙ ((λ i. counts_fine (natural_of a.words.0) (natural_of (to_z-of_z number_fits i)) a.points (eqb c.in-Ok.kind.code 0))
    ∙ fine-taken a _ (looked a.kind _ kind_fits c.look_up.ensures ∙ c.in-Ok.is))

pub returns-in-Err : goal.returns-in-Err
returns-in-Err c =
    let kind_fits : FitsSigned w32 c.args.s.kind = search rules in
    fine_no c.args.s _ (looked c.args.s.kind _ kind_fits c.look_up.ensures ∙ c.in-Err.is)
