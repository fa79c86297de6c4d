-- Laws of two numbers one after the other: read, as the code's tests meet them, and written, as the code stores them.
use mathlib.Core.Path.{◌≡◌, refl, sym, ◌∙◌}
use mathlib.Core.List.{List, ◌++◌}
use Prim.Native.Nat.{ℕ}
use lib.IntN.{ℤ}
use lib.ListN.{replicate, length-append}
use lib.Seq.{sets}
use mir.Syntax.{w32}
use mir.Val.{SFits, to_z, of_z}
use mir.ValLaws.{to_z-of_z}
use Rattle.std.specs.Prelude.{Ok, Err}
use Rattle.format.specs.declared.shapes.Short.{Short}
use Rattle.format.specs.Encoding.{two_big}
use Rattle.format.specs.Numbers.{be_i32, i32_be}
use Rattle.format.specs.Said.{gives, short}
use Rattle.format.proofs.LayoutLaws.{onto, sets_all}
use Rattle.format.proofs.NumberLaws.{length-i32_be, two_i32}
use Rattle.fields.specs.Checked.{Reads}
use Rattle.header.specs.Entries.{two_of}

module _ {A : Type 0} (make : ℤ → ℤ → A) (s : List ℕ) where
  pub cut_first : (e : Short) → Reads 4 0 s (be_i32 0 s) (Err e) → short e.at e.present ≡ two_of make s
  unfolding two_of
  cut_first e h = rw (h.0, h.1)

  pub cut_second : (a : ℤ) (e : Short) → Reads 4 0 s (be_i32 0 s) (Ok a) → Reads 4 4 s (be_i32 4 s) (Err e) → short e.at e.present ≡ two_of make s
  unfolding two_of
  cut_second a e h k = rw (h.0, k.0, k.1)

  pub both_whole : (a b : ℤ) → Reads 4 0 s (be_i32 0 s) (Ok a) → Reads 4 4 s (be_i32 4 s) (Ok b) → gives (make a b) ≡ two_of make s
  unfolding two_of
  both_whole a b h k = rw (h.0, k.0, h.1, k.1)

module _ (a b : ℤ) where
  pub both_stored : sets (sets (replicate 8 0) 0 (i32_be a)) 4 (i32_be b) ≡ i32_be a ++ i32_be b
  both_stored =
      onto (replicate 8 0) _ _ (i32_be a) (i32_be b) 0 4 (simp length-i32_be) refl refl
      ∙ sets_all (i32_be a ++ i32_be b) (replicate 8 0) (simp (length-append, length-i32_be))

  pub both_written : (l : List ℕ) → SFits w32 a → SFits w32 b → l ≡ i32_be (to_z w32 (of_z w32 a)) ++ i32_be (to_z w32 (of_z w32 b)) → l ≡ two_big (of_z w32 a) (of_z w32 b)
  both_written l f g e = e ∙ rw (to_z-of_z w32 a f, to_z-of_z w32 b g) (sym (two_i32 a b))
