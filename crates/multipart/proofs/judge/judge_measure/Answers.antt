-- `multipart::judge::judge_measure`: with the flag, all fields are there or the cut is told.
use Rattle.multipart.proofs.TestLaws.{told_err}
use Rattle.multipart.proofs.WalkLaws.{measure_cut, measure_whole}
use Rattle.multipart.proofs.judge.judge_measure.Goals as goal

pub returns-in_err-fields_end : goal.returns-in_err-fields_end
returns-in_err-fields_end c =
    rw (told_err _ _ c.from_residual.ensures.1, c.if-flag.true) (measure_cut _ _ _ c.requires.0 _ c.in_err-fields_end.ensures)

pub returns-in_ok-fields_end : goal.returns-in_ok-fields_end
returns-in_ok-fields_end c = rw c.if-flag.true (measure_whole _ _ _ _ c.in_ok-fields_end.ensures)
