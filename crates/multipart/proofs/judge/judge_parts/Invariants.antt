-- `multipart::judge::judge_parts`: what is left of the parts' tests has the answer.
use Rattle.std.proofs.Common.{◌+◌, ◌*◌, ◌-◌, pos}
use Rattle.multipart.proofs.WalkLaws.{Judging}
use Rattle.multipart.proofs.judge.judge_parts.Given as goal

abbrev pub invariant-loop-i : goal.invariant-loop-i
invariant-loop-i l = Judging l.said.parts (pos l.said.points) l.s (l.said.parts - l.i) (40 + 4 * l.i) l.at l.points
