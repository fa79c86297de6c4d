-- `multipart::judge::part_at`: the part ends at the next start, where one follows, and else at n.
use Rattle.std.proofs.Common.{◌+◌, ◌∙◌, w32}
use mathlib.Core.Path.{ap₂}
use Rattle.std.proofs.lemmas.Int.{to_z-of_z}
use Rattle.format.proofs.SignLaws.{back}
use Rattle.multipart.specs.Answers.{part_of}
use Rattle.multipart.proofs.PartLaws.{next_start, last_end}
use Rattle.multipart.proofs.judge.part_at.Goals as goal

pub returns-then-follow-gt0 : goal.returns-then-follow-gt0
returns-then-follow-gt0 c =
    let a = c.args in
    let f = c.le_i32_at-from in
    let t = c.le_i32_at-to in
    rw (next_start a.follow (a.start + 4) a.s.now a.n c.if-follow-gt0.true)
    (c.part_count.ensures ∙ ap₂ part_of (back w32 f.result f.type_inv ∙ f.ensures) (back w32 t.result t.type_inv ∙ t.ensures))

pub returns-else-follow-gt0 : goal.returns-else-follow-gt0
returns-else-follow-gt0 c =
    let a = c.args in
    let f = c.le_i32_at-from in
    rw (last_end a.follow (a.start + 4) a.s.now a.n c.if-follow-gt0.false)
    (c.part_count-else-follow-gt0.ensures ∙ ap₂ part_of (back w32 f.result f.type_inv ∙ f.ensures) (to_z-of_z w32 a.n c.ranges.n))
