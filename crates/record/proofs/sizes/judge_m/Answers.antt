-- `record::sizes::judge_m`, by the formulas that the size is.
use Rattle.record.proofs.SizeLaws.{size_with, size_without}
use Rattle.record.proofs.sizes.judge_m.Goals as goal

pub returns-then-has_words : goal.returns-then-has_words
returns-then-has_words c =
    let a = c.args.content in
    size_with a.kind a.lengths a.size _ a.lengths_are c.requires c.if-has_words.ensures

pub returns : goal.returns
returns c =
    let a = c.args.content in
    rw c.then_some.ensures (size_without a.kind a.lengths a.size _ a.lengths_are c.requires c.if-has_words.ensures _ c.has_words-2.ensures)
