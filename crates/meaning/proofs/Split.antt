-- Any bytes are well-formed records up to a place, and there the .shp ends or a record has a fault.
use mathlib.Core.Path.{◌≡◌, refl, sym, ◌∙◌}
use mathlib.Core.List.{List, [], ◌∷◌, ◌++◌, append_assoc}
use mathlib.Core.Logic.{◌⊎◌, inl, inr}
use Prim.Native.Nat.{ℕ, zero, suc, ◌+◌, ◌*◌, ◌≤◌, ◌<◌}
use native.Mathlib.Nat.{add-zero, zero-add}
use native.Mathlib.Omega.{arith}
use lib.ListN.{length, drop, length-drop}
use Rattle.format.specs.Encoding.{shape_words, two_big, record_bytes, records_from, end_from, HeldFrom}
use Rattle.format.specs.Shapes.{Shape, own_kind}
use Rattle.format.proofs.ByteLaws.{AllBytes, all_drop}
use Rattle.format.proofs.Equations.{records-nil, records-cons, end_nil, end_cons}
use Rattle.format.proofs.Laid.{length_record}
use Rattle.format.proofs.NumberLaws.{length_two}
use Rattle.format.proofs.Records.{entries_bytes, entries_bytes_nil, entries_bytes_cons}
use Rattle.rules.specs.Meaning.{AllWellFormed}
use Rattle.rules.specs.Rules.{Taken, words_of, own_taken, size, record_fault}
use Rattle.rules.proofs.FaultLaws.{Fine, fine}
use Rattle.meaning.proofs.Own.{own_well, field-known, kind-read}
use Rattle.meaning.proofs.Record.{encodable, shape, shaped, record_stands, entry_stands}
use Rattle.meaning.proofs.Table.{Known}

-- l has the records from number n and word w on, and x has their entries
pub record Split (t : Taken) (l x : List ℕ) (w n : ℕ) : Type 0 where
  pub shapes : List Shape
  pub rest : List ℕ
  pub left : List ℕ
  pub fine : AllWellFormed t.kind shapes
  pub held : HeldFrom n w shapes
  pub file : records_from t.kind n shapes ++ rest ≡ l
  pub entries : entries_bytes w shapes ++ left ≡ x
  pub stop : (length rest ≡ 0) ⊎ ((0 < length rest) × (record_fault t rest left (2 * end_from w shapes) (n + length shapes) ≡ 0 → ⊥))

at_once : (t : Taken) (l x : List ℕ) (w n : ℕ) → (length l ≡ 0) ⊎ ((0 < length l) × (record_fault t l x (2 * w) n ≡ 0 → ⊥)) → Split t l x w n
at_once t l x w n h =
    record {
      shapes = [];
      rest = l;
      left = x;
      fine = tt;
      held = tt;
      file = rw (records-nil t.kind n);
      entries = rw (entries_bytes_nil w);
      stop = rw (end_nil w, add-zero) h;
    }

module _ (t : Taken) (known : Known t) where
  one_more : (l x : List ℕ) (w n : ℕ) → AllBytes l → AllBytes x → Fine (own_taken t l) l x (2 * w) n
      → Split t (drop (size l) l) (drop 8 x) (w + (4 + words_of l)) (n + 1) → Split t l x w n
  one_more l x w n b bx f more =
      let own : Taken = own_taken t l in
      let of = field-known t l known in
      let s : Shape = shape own of l x w n b bx f in
      let g = encodable own of l x w n b bx f in
      let words : words_of l ≡ shape_words s = (shaped own of l x w n b bx f).words in
      let m : Split t (drop (8 + 2 * shape_words s) l) (drop 8 x) (w + (4 + shape_words s)) (n + 1) = rw words at more in
      let kind : own_kind t.kind s ≡ own.kind = kind-read t l s of g.of_kind in
      let lr : length (record_bytes own.kind n s) ≡ 8 + 2 * shape_words s = length_record own.kind n s g.of_kind in
      let lt : length (two_big w (shape_words s)) ≡ 8 = length_two w (shape_words s) in
      let number : n + suc (length m.shapes) ≡ n + 1 + length m.shapes = omega arith in
      record {
        shapes = s ∷ m.shapes;
        rest = m.rest;
        left = m.left;
        fine = (rw kind g.of_kind, own_well t.kind s (rw kind g.well), m.fine);
        held = (g.number_held, g.word_held, g.words-held, g.parts_held, g.points_held, m.held);
        file = rw (records-cons t.kind n s m.shapes, kind, append_assoc, m.file) (rw (lr, zero-add) at (record_stands own of l x w n b bx f).here);
        entries = rw (entries_bytes_cons w s m.shapes, append_assoc, m.entries) (rw lt at (entry_stands own of l x w n b bx f).here);
        stop = rw (end_cons w s m.shapes, number) m.stop;
      }

  by_fault : (l x : List ℕ) (w n : ℕ) → 0 < length l → AllBytes l → AllBytes x
      → Split t (drop (size l) l) (drop 8 x) (w + (4 + words_of l)) (n + 1) → (r : ℕ) → record_fault t l x (2 * w) n ≡ r → Split t l x w n
  by_fault l x w n i b bx more zero e = one_more l x w n b bx (fine t l x (2 * w) n e) more
  by_fault l x w n i b bx more (suc r) e = at_once t l x w n (inr (i, (λ z. let q : suc r ≡ 0 = sym e ∙ z in omega arith)))

  pub splits : (fuel : ℕ) (l x : List ℕ) (w n : ℕ) → length l ≤ fuel → AllBytes l → AllBytes x → Split t l x w n
  splits zero [] x w n h b bx = at_once t [] x w n (inl refl)
  splits (suc fuel) [] x w n h b bx = at_once t [] x w n (inl refl)
  splits zero (a ∷ l) x w n h b bx = absurd (omega arith)
  splits (suc fuel) (a ∷ l) x w n h b bx =
      let s : List ℕ = a ∷ l in
      let less : length (drop (size s) s) ≤ fuel = rw length-drop (omega arith) in
      let more = splits fuel (drop (size s) s) (drop 8 x) (w + (4 + words_of s)) (n + 1) less (all_drop (size s) s b) (all_drop 8 x bx) in
      by_fault s x w n (omega arith) b bx more (record_fault t s x (2 * w) n) refl
