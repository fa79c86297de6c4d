-- `Words::try_from` meets its contract: an i32 holds the half, rounded down, or not; and twice the half is the number, or not.
use mathlib.Core.Path.{◌≡◌, sym, ap, ◌∙◌}
use lib.IntN.{ℤ, ◌+ℤ◌}
use lib.Signed.{shr_z}
use mir.Syntax.{w32, w64}
use mir.Val.{SFits, to_z, of_z}
use mir.ValLaws.{to_z-of_z}
use Rattle.std.proofs.lemmas.Result.{OkIff-at_ok, OkIff-at_err}
use Rattle.std.proofs.lemmas.Bool.{not-true, not-false, iff_false}
use Rattle.std.proofs.lemmas.Bool.Decides.{Decides-int_eq}
use Rattle.format.specs.declared.units.Bytes.{Bytes}
use Rattle.format.specs.Units.{half, in_bytes}
use Rattle.format.proofs.UnitLaws.{half-fits, not_in_i32, not_held, not_even, is-half}
use Rattle.format.proofs.units.WordsTryFromBytes.try_from.Goals as goal

-- what the local holds
abbrev local : Bytes → ℤ
local b = to_z w64 (of_z w64 (shr_z (to_z w64 (of_z w64 b.0)) 2))

held : (b : Bytes) → SFits w64 b.0 → local b ≡ half b
held b f = ap (λ (x : ℤ). to_z w64 (of_z w64 (shr_z x 2))) (to_z-of_z w64 b.0 f) ∙ to_z-of_z w64 (shr_z b.0 2) (half-fits b.0 f)

pub returns-in_default : goal.returns-in_default
returns-in_default c =
    let b = c.args.b in
    let asked = rw (held b search) at c.try_from.ensures in
    not_held b (not_in_i32 (half b) (OkIff-at_err c.try_from.result _ _ c.in_default.field-0 asked c.in_default.is))

-- twice the half that an i32 holds
twice : (b : Bytes) (z : ℤ) (w : Bytes) → SFits w32 (half b) → z ≡ half b → w ≡ in_bytes (record { 0 = to_z w32 (of_z w32 z) }) → w.0 ≡ half b +ℤ half b
twice b z w f e d =
    let back : to_z w32 (of_z w32 z) ≡ half b = ap (λ (x : ℤ). to_z w32 (of_z w32 x)) e ∙ to_z-of_z w32 (half b) f in
    ap (λ (x : Bytes). x.0) d ∙ ap (λ (x : ℤ). x +ℤ x) back

pub returns-then-ne : goal.returns-then-ne
returns-then-ne c =
    let b = c.args.b in
    let asked = rw (held b search) at c.try_from.ensures in
    let h = OkIff-at_ok c.try_from.result _ _ c.in-Ok.half asked c.in-Ok.is in
    let t = twice b _ c.from.result h.0 h.1 c.from.ensures in
    not_even b (λ e. iff_false (Decides-int_eq c.from.result.0 b.0) (not-true _ (sym c.ne.ensures ∙ c.if-ne.true)) (t ∙ e))

pub returns : goal.returns
returns c =
    let b = c.args.b in
    let asked = rw (held b search) at c.try_from.ensures in
    let h = OkIff-at_ok c.try_from.result _ _ c.in-Ok.half asked c.in-Ok.is in
    let t = twice b _ c.from.result h.0 h.1 c.from.ensures in
    let e : c.from.result.0 ≡ b.0 = (Decides-int_eq c.from.result.0 b.0).0 (not-false _ (sym c.ne.ensures ∙ c.if-ne.false)) in
    rw (h.1, to_z-of_z w32 (half b) h.0) (is-half b (h.0.sfits) (sym t ∙ e))
