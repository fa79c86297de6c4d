-- The walk passes over the records of well-formed shapes, and counts them; and no two lists of such shapes have the same records.
use mathlib.Core.Path.{◌≡◌, refl, sym, ap, ap₂, ◌∙◌, subst}
use mathlib.Core.List.{List, [], ◌∷◌, ◌++◌, append_assoc}
use Prim.Native.Nat.{ℕ, suc, ◌+◌, ◌*◌, ◌<◌}
use native.Mathlib.Nat.{add-zero}
use native.Mathlib.Omega.{arith}
use lib.ListN.{length, drop, length-append}
use lib.Seq.{drop_at}
use Rattle.format.specs.declared.kinds.Kind.{Kind}
use Rattle.format.specs.Encoding.{shape_words, two_big, record_bytes, records_from, end_from, HeldFrom}
use Rattle.format.specs.Shapes.{Shape, OfKind, parts_in, points_in, own_kind, Among}
use Rattle.format.proofs.Equations.{records-nil, records-cons, end_nil, end_cons}
use Rattle.format.proofs.Laid.{length_record}
use Rattle.format.proofs.NumberLaws.{length_two}
use Rattle.format.proofs.Places.{in_front}
use Rattle.format.proofs.Records.{entries_bytes, entries_bytes_nil, entries_bytes_cons}
use Rattle.rules.specs.Meaning.{AllWellFormed, all_parts, all_points}
use Rattle.rules.specs.Rules.{Taken, Counts, words_of, parts_of, points_of, own_taken, size, record_fault, or_on, walk_from}
use Rattle.rules.proofs.FaultLaws.{Fine, faultless}
use Rattle.rules.proofs.WalkLaws.{next, walk_record}
use Rattle.meaning.proofs.Decode.{shape_at}
use Rattle.meaning.proofs.Forms.{Back}
use Rattle.meaning.proofs.Own.{shape_taken, well_own, shape-known, own_is}
use Rattle.meaning.proofs.Record.{Encodable, words-read, read_back, fine_record}
use Rattle.meaning.proofs.Table.{Known}

-- the counts behind one shape, and behind all of them
abbrev and_one : Counts → Shape → Counts
and_one c s = record { records = c.records + 1; parts = c.parts + parts_in s; points = c.points + points_in s }

abbrev pub plus : Counts → List Shape → Counts
plus c ss = record { records = c.records + length ss; parts = c.parts + all_parts ss; points = c.points + all_points ss }

one_plus : (c : Counts) (s : Shape) (ss : List Shape) → plus (and_one c s) ss ≡ plus c (s ∷ ss)
one_plus c s ss =
    let records : c.records + 1 + length ss ≡ c.records + suc (length ss) = omega arith in
    let parts : c.parts + parts_in s + all_parts ss ≡ c.parts + (parts_in s + all_parts ss) = omega arith in
    let points : c.points + points_in s + all_points ss ≡ c.points + (points_in s + all_points ss) = omega arith in
    λ i. record { records = records i; parts = parts i; points = points i }

-- a record of a kind, with anything behind it
module _ (t : Taken) (known : Known t) (s : Shape) (n w : ℕ) (g : Encodable t.kind n w s) (r y : List ℕ) where
  abbrev recorded : List ℕ
  recorded = record_bytes t.kind n s ++ r

  abbrev indexed : List ℕ
  indexed = two_big w (shape_words s) ++ y

  backed : Back t recorded s
  backed = read_back t known recorded indexed w n s g (in_front (record_bytes t.kind n s) r) (in_front (two_big w (shape_words s)) y)

  unfaulted : Fine t recorded indexed (2 * w) n
  unfaulted = fine_record t known recorded indexed w n s g (in_front (record_bytes t.kind n s) r) (in_front (two_big w (shape_words s)) y)

  words : words_of recorded ≡ shape_words s
  words = words-read t known recorded indexed w n s g (in_front (record_bytes t.kind n s) r) (in_front (two_big w (shape_words s)) y)

  behind : drop (size recorded) recorded ≡ r
  behind = drop_at (record_bytes t.kind n s) r (size recorded) (length_record t.kind n s g.of_kind ∙ ap (λ (i : ℕ). 8 + 2 * i) (sym words))

  behind-entry : drop 8 indexed ≡ y
  behind-entry = drop_at (two_big w (shape_words s)) y 8 (length_two w (shape_words s))

some_bytes : (k : Kind) (s : Shape) (n : ℕ) (r : List ℕ) → OfKind k s → 0 < length (record_bytes k n s ++ r)
some_bytes k s n r o = omega (arith, length_record k n s o, length-append (record_bytes k n s) r)

-- in a file of a kind the records are of their own kinds
module _ (t : Taken) (known : Known t) where
  module _ (s : Shape) (n w : ℕ) (g : Encodable (own_kind t.kind s) n w s) (r y : List ℕ) where
    abbrev own : Taken
    own = shape_taken t s

    of : Known own
    of = shape-known t s known

    abbrev l : List ℕ
    l = recorded own of s n w g r y

    abbrev x : List ℕ
    x = indexed own of s n w g r y

    own_read : own_taken t l ≡ own
    own_read = own_is t l known s g.of_kind (unfaulted own of s n w g r y).code

    -- the shape that is read there is the one
    same_read : shape_at (own_taken t l).kind (own_taken t l).form l ≡ s
    same_read = ap (λ (q : Taken). shape_at q.kind q.form l) own_read ∙ (backed own of s n w g r y).same

    left : drop (size l) l ≡ r
    left = behind own of s n w g r y

    -- the walk goes on behind it
    skip : (c : Counts) → n ≡ c.records + 1 → walk_from t l x (2 * w) c ≡ walk_from t r y (2 * (w + (4 + shape_words s))) (and_one c s)
    skip c e =
        let b = backed own of s n w g r y in
        let place : 2 * w + size l ≡ 2 * (w + (4 + shape_words s)) = omega (arith, words own of s n w g r y) in
        let fine : Fine (own_taken t l) l x (2 * w) n = subst (λ (q : Taken). Fine q l x (2 * w) n) (sym own_read) (unfaulted own of s n w g r y) in
        let passed : record_fault t l x (2 * w) (c.records + 1) ≡ 0 = rw (← e) (faultless t l x (2 * w) n fine) in
        let parts : parts_of (own_taken t l).form l ≡ parts_in s = ap (λ (q : Taken). parts_of q.form l) own_read ∙ b.parts in
        let points : points_of (own_taken t l).form l ≡ points_in s = ap (λ (q : Taken). points_of q.form l) own_read ∙ b.points in
        let counts : next t l c ≡ and_one c s = λ i. record { records = c.records + 1; parts = c.parts + parts i; points = c.points + points i } in
        walk_record t l x (2 * w) c (some_bytes own.kind s n r g.of_kind)
        ∙ (ap (λ (f : ℕ). or_on f (c.records + 1) (walk_from t (drop (size l) l) (drop 8 x) (2 * w + size l) (next t l c))) passed
        ∙ (λ i. walk_from t (left i) (behind-entry own of s n w g r y i) (place i) (counts i)))

  first_of : (s : Shape) (ss : List Shape) (n w : ℕ) → AllWellFormed t.kind (s ∷ ss) → HeldFrom n w (s ∷ ss) → Encodable (own_kind t.kind s) n w s
  first_of s ss n w f h =
      record { of_kind = f.0; well = well_own t.kind s f.1; number_held = h.0; word_held = h.1; words-held = h.2; parts_held = h.3; points_held = h.4 }

  pub skips : (ss : List Shape) (w : ℕ) (c : Counts) (rest left : List ℕ) → AllWellFormed t.kind ss → HeldFrom (c.records + 1) w ss
      → walk_from t (records_from t.kind (c.records + 1) ss ++ rest) (entries_bytes w ss ++ left) (2 * w) c
      ≡ walk_from t rest left (2 * end_from w ss) (plus c ss)
  skips [] w c rest left f h = rw (records-nil t.kind (c.records + 1), entries_bytes_nil w, end_nil w) (simp add-zero)
  skips (s ∷ ss) w c rest left f h =
      let n = c.records + 1 in
      let v = w + (4 + shape_words s) in
      let r : List ℕ = records_from t.kind (n + 1) ss in
      let y : List ℕ = entries_bytes v ss in
      rw (records-cons t.kind n s ss, entries_bytes_cons w s ss, end_cons w s ss)
      (ap₂ (λ (a b : List ℕ). walk_from t a b (2 * w) c) (append_assoc (record_bytes (own_kind t.kind s) n s) r rest) (append_assoc (two_big w (shape_words s)) y left)
      ∙ (skip s n w (first_of s ss n w f h) (r ++ rest) (y ++ left) c refl
      ∙ (skips ss v (and_one c s) rest left f.2 h.5
      ∙ ap (walk_from t rest left (2 * end_from v ss)) (one_plus c s ss))))

  -- ---- no two lists

  none_some : (s : Shape) (ss : List Shape) (n : ℕ) → Among t.kind s → records_from t.kind n [] ≡ records_from t.kind n (s ∷ ss) → ⊥
  none_some s ss n o e =
      let q = sym (records-nil t.kind n) ∙ (e ∙ records-cons t.kind n s ss) in
      omega (arith, ap length q, some_bytes (own_kind t.kind s) s n (records_from t.kind (n + 1) ss) o)

  pub one_list : (ss ss' : List Shape) (n w w' : ℕ) → AllWellFormed t.kind ss → AllWellFormed t.kind ss' → HeldFrom n w ss → HeldFrom n w' ss'
      → records_from t.kind n ss ≡ records_from t.kind n ss' → ss ≡ ss'
  one_list [] [] n w w' f f' h h' e = refl
  one_list [] (s ∷ ss) n w w' f f' h h' e = absurd (none_some s ss n f'.0 e)
  one_list (s ∷ ss) [] n w w' f f' h h' e = absurd (none_some s ss n f.0 (sym e))
  one_list (s ∷ ss) (s' ∷ ss') n w w' f f' h h' e =
      let r = records_from t.kind (n + 1) ss in
      let r' = records_from t.kind (n + 1) ss' in
      let g = first_of s ss n w f h in
      let g' = first_of s' ss' n w' f' h' in
      let q = sym (records-cons t.kind n s ss) ∙ (e ∙ records-cons t.kind n s' ss') in
      let head : s ≡ s' = sym (same_read s n w g r []) ∙ (ap (λ (l : List ℕ). shape_at (own_taken t l).kind (own_taken t l).form l) q ∙ same_read s' n w' g' r' []) in
      let tail : r ≡ r' = sym (left s n w g r []) ∙ (ap (λ (l : List ℕ). drop (size l) l) q ∙ left s' n w' g' r' []) in
      let more : ss ≡ ss' = one_list ss ss' (n + 1) (w + (4 + shape_words s)) (w' + (4 + shape_words s')) f.2 f'.2 h.5 h'.5 tail in
      λ i. head i ∷ more i
