-- `fields::bits`: a NaN has the one pattern.
use Rattle.std.proofs.Common.{sym, ap, ◌∙◌}
use Rattle.std.specs.Float.{binary64}
use Rattle.std.specs.Float.Ieee.{to_bits}
use Rattle.format.proofs.NanLaws.{is-nan, nan-bits}
use Rattle.fields.proofs.bits.Goals as goal

pub returns-then-is_nan : goal.returns-then-is_nan
returns-then-is_nan c = sym (ap (to_bits binary64) (is-nan c.args.x (sym c.is_nan.ensures.value ∙ c.if-is_nan.true)) ∙ nan-bits)
