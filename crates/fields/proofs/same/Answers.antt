-- `fields::same`: each double is that of its bits.
use Rattle.std.proofs.Common.{ap₂, ◌∙◌}
use Rattle.std.specs.Float.Ieee.{eq}
use Rattle.format.proofs.NanLaws.{double-back}
use Rattle.fields.proofs.same.Goals as goal

pub returns : goal.returns
returns c =
    let x = double-back c.args.x c.bits.result c.well_formed.0.1 c.bits.ensures in
    let y = double-back c.args.y c.bits-2.result c.well_formed.1.0.1 c.bits-2.ensures in
    c.same_number.ensures ∙ ap₂ eq x y
