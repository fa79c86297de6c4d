-- `format::lengths::of_several` meets its contract: the pieces add up to the words of parts, and of a multipoint.
use mathlib.Core.Path.{◌≡◌, refl, ap₂, ◌∙◌}
use mathlib.Core.Bool.{Bool, true, false}
use Prim.Native.Nat.{ℕ, ◌+◌}
use native.Mathlib.Omega.{arith}
use Rattle.format.specs.Lengths.{given, several_form, fixed_words, point_words}
use Rattle.format.proofs.lengths.of_several.Goals as goal

-- behind the kind's field and the box: the number of parts and that of points, the range of z and that of m
fixed-is : (f z m : Bool) {p r s : ℕ} → p ≡ given f 2 → r ≡ given z 8 → s ≡ given m 8 → 18 + (p + 2) + (r + s) ≡ fixed_words (several_form f) z m
unfolding fixed_words
fixed-is true z m e g h = omega (arith, e, g, h)
fixed-is false z m e g h = omega (arith, e, g, h)

point-is : (f z m : Bool) → 8 + given z 4 + given m 4 ≡ point_words (several_form f) z m
unfolding point_words
point-is true z m = refl
point-is false z m = refl

pub returns : goal.returns
returns c =
    let m = c.before in
    let z = m.before in
    let p = z.before in
    let a = p.before.args in
    ap₂ (λ (f p : ℕ). record { fixed = f; point = p })
    (fixed-is a.in_parts a.z a.m p.given-counts.ensures.0 z.given.ensures.0 m.given-2.ensures.0)
    (c.point_doubles.ensures.0 ∙ point-is a.in_parts a.z a.m)
