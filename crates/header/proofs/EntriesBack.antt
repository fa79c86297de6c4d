-- A record's header and an index entry come back as they were written, and are written as they stood: by one law of two numbers each.
use mathlib.Core.Path.{◌≡◌, refl, sym, ap, ap₂, ◌∙◌}
use mathlib.Core.List.{List, [], ◌∷◌, ◌++◌}
use Prim.Native.Nat.{ℕ, ◌≤◌}
use native.Mathlib.Omega.{arith}
use lib.IntN.{ℤ}
use lib.ListN.{length, take}
use lib.Seq.{drop_at, take-add}
use mir.Syntax.{w32}
use mir.Val.{SFits, of_z}
use borrow.Author.Tests.{le-leb, leb-true}
use Rattle.format.specs.Bytes.{field}
use Rattle.format.specs.Encoding.{two_big}
use Rattle.format.specs.Numbers.{be_i32, i32_be}
use Rattle.format.specs.Order.{field_at}
use Rattle.format.specs.Said.{gives, short}
use Rattle.format.proofs.ByteLaws.{AllBytes, all_bytes}
use Rattle.format.proofs.Equations.{field_is}
use Rattle.format.proofs.NumberLaws.{length_two, length-i32_be, two_i32, be_i32-back, i32_be_of}
use Rattle.format.proofs.OrderLaws.{passed, given}
use Rattle.format.proofs.Places.{in_front, all_behind, field_stands}
use Rattle.header.specs.Entries.{two_of, record_header, shape_index, record_header_bytes, index_entry_bytes}
use Rattle.header.specs.RoundTrip.{EntriesBack}
use Rattle.header.proofs.EntryLaws.{both_whole}

-- each of the two stands at its place
at_first : (a b : ℤ) → field 4 0 (two_big (of_z w32 a) (of_z w32 b)) ≡ i32_be a
at_first a b = rw two_i32 (field_stands 0 (i32_be a) (i32_be a ++ i32_be b) 4 (length-i32_be a) (in_front (i32_be a) (i32_be b)))

at_second : (a b : ℤ) → field 4 4 (two_big (of_z w32 a) (of_z w32 b)) ≡ i32_be b
at_second a b =
    rw two_i32 (field_stands 4 (i32_be b) _ 4 (length-i32_be b) (all_behind 4 (i32_be b) (i32_be a ++ i32_be b) (drop_at (i32_be a) (i32_be b) 4 (length-i32_be a))))

module _ {A : Type 0} (make : ℤ → ℤ → A) where
  two_back : (a b : ℤ) → SFits w32 a → SFits w32 b → two_of make (two_big (of_z w32 a) (of_z w32 b)) ≡ gives (make a b)
  two_back a b f g =
      let s = two_big (of_z w32 a) (of_z w32 b) in
      let h : 8 ≤ length s = omega (arith, length_two (of_z w32 a) (of_z w32 b)) in
      let k : 4 ≤ length s = omega arith in
      sym (both_whole make s a b (le-leb 4 (length s) k, sym (be_i32-back a f 0 s (at_first a b))) (le-leb 8 (length s) h, sym (be_i32-back b g 4 s (at_second a b))))

  two-written : (bytes : A → List ℕ) → ((a b : ℤ) → bytes (make a b) ≡ two_big (of_z w32 a) (of_z w32 b)) → (s : List ℕ) (x : A) → AllBytes s → two_of make s ≡ gives x → bytes x ≡ take 8 s
  unfolding two_of
  two-written bytes of s x b e =
      let a = make (be_i32 0 s) (be_i32 4 s) in
      let ts = field_at 4 0 s short ∷ field_at 4 4 s short ∷ [] in
      let h : 8 ≤ length s = leb-true 8 (length s) (passed a x ts tt e 1) in
      ap bytes (sym (given a x ts tt e))
      ∙ (of (be_i32 0 s) (be_i32 4 s)
      ∙ (two_i32 (be_i32 0 s) (be_i32 4 s)
      ∙ (ap₂ (λ (l r : List ℕ). l ++ r) (i32_be_of 0 s b (omega arith) ∙ field_is 4 0 s) (i32_be_of 4 s b (omega arith) ∙ field_is 4 4 s)
      ∙ sym (take-add 4 4 s))))

pub entries-back : EntriesBack
entries-back =
    record {
      record_back = λ h f g. two_back record_header h.record_number h.content_length.0 f g;
      record_written = λ s h b e. two-written record_header record_header_bytes (λ n w. refl) s h (all_bytes s b) e;
      entry_back = λ e f g. two_back shape_index e.offset.0 e.content_length.0 f g;
      entry_written = λ s h b e. two-written shape_index index_entry_bytes (λ o w. refl) s h (all_bytes s b) e;
    }
