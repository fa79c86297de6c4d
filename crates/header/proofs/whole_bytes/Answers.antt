-- `header::whole_bytes`: what stands in the array after each call, and in the end the paper's fields.
use Rattle.std.proofs.Common.{◌≡◌, rules, ap, ap₂, List, ℕ, ℤ, SFits, to_z-of_z, ◌∙◌}
use Rattle.std.proofs.lemmas.List.Edits.{sets}
use Rattle.std.specs.Int.{w32}
use Rattle.format.specs.Numbers.{i32_be, i32_le, f64s_le}
use Rattle.header.specs.Box.{box_list}
use Rattle.header.proofs.WriteLaws.{all_stored}
use Rattle.header.proofs.whole_bytes.Goals as goal

-- a number goes in behind those in front
stored : {b l m : List ℕ} {z y : ℤ} (bytes : ℤ → List ℕ) (at : ℕ) → b ≡ sets l at (bytes z) → l ≡ m → z ≡ y → b ≡ sets m at (bytes y)
stored bytes at p q r = p ∙ ap₂ (λ (l : List ℕ) (z : ℤ). sets l at (bytes z)) q r

pub returns : goal.returns
returns c =
    let h = c.args.h in
    let w : SFits w32 h.file_length.0 = search rules in
    let v : SFits w32 h.version = search rules in
    let k : SFits w32 h.shape_type = search rules in
    let s2 = stored i32_be 24 c.put_be_i32-2.ensures c.put_be_i32.ensures (to_z-of_z w) in
    let s3 = stored i32_le 28 c.put_le_i32.ensures s2 (to_z-of_z v) in
    let s4 = stored i32_le 32 c.put_le_i32-2.ensures s3 (to_z-of_z k) in
    c.put_box.ensures ∙ (ap (λ (l : List ℕ). sets l 36 (f64s_le (box_list h.bbox))) s4 ∙ all_stored h)
