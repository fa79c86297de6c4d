-- `fields::same_number`: a NaN equals nothing, a zero both zeros, and any other double itself.
use Rattle.std.proofs.Common.{◌%◌, ◌^◌, sym, arith, ◌∙◌}
use Rattle.std.specs.Float.{binary64}
use borrow.Author.Tests.{lt-leb}
use Rattle.format.proofs.BitLaws.{bits_compare, same_zeros, same_others}
use Rattle.fields.proofs.same_number.Goals as goal

pub returns-then-rest-gt-INFINITY : goal.returns-then-rest-gt-INFINITY
returns-then-rest-gt-INFINITY c =
    let a = c.args.a in
    sym ((bits_compare binary64 a c.args.b).1 ∙ rw (lt-leb (a % 2 ^ 63) 0x7ff0_0000_0000_0000 c.if-rest-gt-INFINITY.true))

pub returns-then-rest-eq0 : goal.returns-then-rest-eq0
returns-then-rest-eq0 c = sym (same_zeros c.args.a c.args.b c.if-rest-eq0.true)

pub returns : goal.returns
returns c = sym (same_others c.args.a c.args.b (omega arith) (omega arith) c.if-rest-eq0.false c.if-rest-gt-INFINITY.false)
