-- `fields::be_i32_at`: the number is that of the field's bits.
use Rattle.std.proofs.Common.{◌≡◌, to_z, ◌∙◌}
use Rattle.std.specs.Int.{w32}
use Rattle.format.specs.Bytes.{be, field}
use Rattle.format.proofs.Equations.{be_i32-is}
use Rattle.format.proofs.SignLaws.{back}
use Rattle.fields.proofs.be_i32_at.Goals as goal

pub returns : goal.returns
returns c =
    let e : c.signed.result ≡ to_z w32 (be (field 4 c.args.at c.args.s.now)) = cc in
    rw be_i32-is (back w32 c.signed.result c.signed.type_inv ∙ e)
