-- `header::entries::two_bytes`: the second number goes in behind the first.
use Rattle.std.proofs.Common.{ap, ap₂, List, ℕ, ℤ, replicate, to_z-of_z, ◌∙◌}
use Rattle.std.proofs.lemmas.List.Edits.{sets}
use Rattle.format.specs.Numbers.{i32_be}
use Rattle.header.proofs.EntryLaws.{both_stored}
use Rattle.header.proofs.entries.two_bytes.Goals as goal

pub returns : goal.returns
returns c =
    let a = c.args in
    let b = to_z-of_z c.ranges.b in
    let first = c.put_be_i32.ensures ∙ ap (λ (z : ℤ). sets (replicate 8 0) 0 (i32_be z)) (to_z-of_z c.ranges.a) in
    c.put_be_i32-2.ensures ∙ (ap₂ (λ (l : List ℕ) (z : ℤ). sets l 4 (i32_be z)) first b ∙ both_stored a.a a.b)
