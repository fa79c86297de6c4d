-- `multipart::part_count`: the difference in an i64 is exact, and its two tests are those of a count.
use Rattle.multipart.proofs.PartLaws.{difference_is, negative_part, large_part, counted_part}
use Rattle.multipart.proofs.part_count.Goals.{then-count-lt0-via-then-count-lt0, then-count-lt0-via-else-count-lt0+then-from-count}
use Rattle.multipart.proofs.part_count.Goals as goal

pub returns-then-count-lt0 : goal.returns-then-count-lt0
returns-then-count-lt0 c =
    let is = difference_is _ _ _ _ c.ranges.start c.ranges.end c.from.ensures c.from-2.ensures in
    elim c.then-count-lt0.branch [
      | then-count-lt0-via-then-count-lt0 w ↦ negative_part _ _ _ is w.if-count-lt0.true
      | then-count-lt0-via-else-count-lt0+then-from-count w ↦ large_part _ _ _ is _ w.from-else-count-lt0.ensures w.if-from-count.true
    ]

pub returns : goal.returns
returns c =
    let is = difference_is _ _ _ _ c.ranges.start c.ranges.end c.from.ensures c.from-2.ensures in
    counted_part _ _ _ is _ c.from-else-count-lt0.ensures c.if-count-lt0.false c.if-from-count.false
