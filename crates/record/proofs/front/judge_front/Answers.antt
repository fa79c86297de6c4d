-- `record::front::judge_front`: the wanted kind is judged first, and what follows it decides else.
use Rattle.std.proofs.lemmas.Result.{err_from_is_err_and}
use Rattle.record.proofs.FrontLaws.{front-refused, front_on}
use Rattle.record.proofs.front.judge_front.Goals as goal

pub returns-in_err-judge_wanted-clause-tests : goal.returns-in_err-judge_wanted-clause-tests
returns-in_err-judge_wanted-clause-tests c =
    let p = err_from_is_err_and c.from_residual.result c.from_residual.ensures.1 in
    rw (p.1, p.2) (front-refused c.args.wanted c.args.size c.args.s.now _ c.in_err-judge_wanted.ensures)

pub returns-clause-tests : goal.returns-clause-tests
returns-clause-tests c = front_on c.args.wanted c.args.size c.args.s.now c.in_ok-judge_wanted.ensures c.judge_found.result c.judge_found.ensures.tests
