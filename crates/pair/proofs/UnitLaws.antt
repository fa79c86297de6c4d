-- Lengths in words as the code holds them: what an i32 field's words say of its bits.
use mathlib.Core.Path.{◌≡◌, sym, ap, ◌∙◌}
use Prim.Native.Nat.{ℕ, ◌^◌, ◌<◌}
use lib.IntN.{ℤ, pos, nat_abs}
use mir.Syntax.{w32}
use mir.ValLaws.{to_z_pos}
use Rattle.format.specs.declared.units.Words.{Words}
use Rattle.pair.specs.Plans.{Field, Whole}

-- where an i32 holds them
module _ (v : ℕ) (r : Words) (f : Field v r) (h : v < 2 ^ 31) where
  pub field-words : r.0 ≡ pos v
  field-words = ap (λ (w : Words). w.0) f.value ∙ to_z_pos w32 v h

  pub field-whole : Whole r
  field-whole = field-words ∙ ap (λ (z : ℤ). pos (nat_abs z)) (sym field-words)

  pub field_count : nat_abs r.0 ≡ v
  field_count = ap nat_abs field-words
