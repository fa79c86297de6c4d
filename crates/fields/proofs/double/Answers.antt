-- `fields::double`: a NaN's pattern gives a NaN, and any other bits their double.
use Rattle.std.proofs.Common.{sym, ◌∙◌, lit<}
use Rattle.std.specs.Float.{binary64}
use Rattle.format.proofs.NanLaws.{nan_pattern, no_nan_pattern}
use Rattle.fields.proofs.double.Goals as goal

pub float_from_bits-result : goal.float_from_bits-result
float_from_bits-result c = no_nan_pattern binary64 c.args.n c.if-n-gt-INFINITY.false

pub returns-then-n-gt-INFINITY : goal.returns-then-n-gt-INFINITY
returns-then-n-gt-INFINITY c =
    nan_pattern binary64 0x7ff8_0000_0000_0000 (lit< tt) ∙ sym (nan_pattern binary64 c.args.n c.if-n-gt-INFINITY.true)
