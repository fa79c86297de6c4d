-- `fields::be_number`: the bytes of the field, one behind the other.
use Rattle.std.proofs.Common.{◌≡◌, ◌+◌, ◌-◌, ℕ, take, drop, ap, sym, arith, rules, tests, ◌∙◌}
use Rattle.std.proofs.lemmas.Iterator.{YieldsList-from_slice}
use Rattle.std.proofs.lemmas.Iterator.Consumers.{fold_from_yields_List}
use Rattle.format.specs.Bytes.{field}
use Rattle.format.proofs.ByteLaws.{all_bytes, be_field_lt}
use Rattle.format.proofs.Equations.{field_is}
use Rattle.fields.proofs.Turns.{with_byte, be_folded}
use Rattle.fields.proofs.be_number.Goals as goal

pub returns : goal.returns
returns c =
    let k = c.args.k in
    let at = c.args.at in
    let s = c.args.s.now in
    let bytes = λ (i : ℕ). (c.type_inv.s i).fits in
    let n : at + k - at ≡ k = omega arith in
    let here : c.iter.result.rest.now ≡ field k at s = c.iter.ensures.rest ∙ (ap (λ (m : ℕ). take m (drop at s)) n ∙ sym (field_is k at s)) in
    let e = fold_from_yields_List _ with_byte 0 c.fold.result c.fold.ensures.ran (YieldsList-from_slice (field k at s) here) (λ m x r q w. search (rules, tests)) in
    let e = e ∙ be_folded s bytes k at (omega arith) (omega arith) in
    (e, rw e (be_field_lt k at s (all_bytes s bytes) (omega arith)))
