-- Records and index entries: where their fields stand and what is read there, of one record and of a list of shapes.
use mathlib.Core.Path.{◌≡◌, refl, sym, ap, ◌∙◌}
use mathlib.Core.Bool.{true, false}
use mathlib.Core.List.{List, [], ◌∷◌, ◌++◌, map, flatten, append_assoc, append-nil}
use Prim.Native.Nat.{ℕ, zero, suc, ◌+◌, ◌*◌, ◌^◌, ◌≤◌, ◌<◌}
use native.Mathlib.Nat.{add-zero}
use native.Mathlib.Omega.{arith}
use lib.ListN.{length, take, get_or, length-append}
use Rattle.format.specs.declared.kinds.Kind.{Kind}
use Rattle.format.specs.Bytes.{le, be, field}
use Rattle.format.specs.Encoding.{Box, shape_bytes, shape_words, content, two_big, record_bytes, records_from, entries_from, entry_bytes, end_from, Held, HeldFrom, IsPair}
use Rattle.format.specs.Lengths.{one_point}
use Rattle.format.specs.Numbers.{big, little}
use Rattle.format.specs.Shapes.{Shape, null, point, multipoint, parted, there, points_in, own_kind}
use Rattle.format.proofs.ByteLaws.{AllBytes}
use Rattle.format.proofs.LengthLaws.{some_words, least-words}
use Rattle.format.proofs.NumberLaws.{length-big, length-little, length_two}
use Rattle.format.proofs.Places.{Stands, join, front, back, le-back, be-back, le_stands, be_stands}

-- ---- two big numbers

module _ (a b at : ℕ) (l : List ℕ) (st : Stands at (two_big a b) l) where
  pub first_read : a < 2 ^ 32 → be (field 4 at l) ≡ a
  unfolding two_big big
  first_read h = be-back 4 a at l h (front at 4 (big a) (big b) l (length-big a) st)

  pub second_read : b < 2 ^ 32 → be (field 4 (at + 4) l) ≡ b
  unfolding two_big big
  second_read h = be-back 4 b (at + 4) l h (back at 4 (big a) (big b) l (length-big a) st)

pub two_stands : (l : List ℕ) → AllBytes l → 8 ≤ length l → Stands 0 (two_big (be (field 4 0 l)) (be (field 4 4 l))) l
unfolding two_big big
two_stands l b h = join 0 4 (big (be (field 4 0 l))) (big (be (field 4 4 l))) l (length-big _) (be_stands 4 0 l b (omega arith)) (be_stands 4 4 l b (omega arith))

-- ---- one record

module _ (k : Kind) (n : ℕ) (s : Shape) (l : List ℕ) where
  -- where the fields are right, and the shape stands behind them
  pub record_laid : AllBytes l → 12 ≤ length l → be (field 4 0 l) ≡ n → be (field 4 4 l) ≡ shape_words s → le (field 4 8 l) ≡ k.code → Stands 12 (shape_bytes s) l
      → Stands 0 (record_bytes k n s) l
  unfolding record_bytes content little
  record_laid b h en ew ec st =
      join 0 8 (two_big n (shape_words s)) (content k s) l (length_two _ _) (rw (en, ew) at (two_stands l b (omega arith)))
      (join 8 4 (little k.code) (shape_bytes s) l (length-little _) (rw ec at (le_stands 4 8 l b (omega arith))) st)

  module _ (at : ℕ) (st : Stands at (record_bytes k n s) l) where
    pub in_header : Stands at (two_big n (shape_words s)) l
    unfolding record_bytes
    in_header = front at 8 (two_big n (shape_words s)) (content k s) l (length_two _ _) st

    pub in_content : Stands (at + 8) (content k s) l
    unfolding record_bytes
    in_content = back at 8 (two_big n (shape_words s)) (content k s) l (length_two _ _) st

    pub in_shape : Stands (at + 8 + 4) (shape_bytes s) l
    unfolding content
    in_shape = back (at + 8) 4 (little k.code) (shape_bytes s) l (length-little _) in_content

    pub code_read : k.code < 2 ^ 32 → le (field 4 (at + 8) l) ≡ k.code
    unfolding content little
    code_read h = le-back 4 k.code (at + 8) l h (front (at + 8) 4 (little k.code) (shape_bytes s) l (length-little _) in_content)

-- the kind's field at least
pub shape-least : (s : Shape) → 2 ≤ shape_words s
unfolding shape_words
shape-least null = some_words _ _ _ _ _
shape-least (point xy z m) = some_words _ _ _ _ _
shape-least (multipoint s) = some_words _ _ _ _ _
shape-least (parted s) = some_words _ _ _ _ _

-- a word for each point, and more
pub points-least : (s : Shape) → points_in s ≤ shape_words s
unfolding shape_words points_in
points-least null = omega arith
points-least (point xy z m) = omega (arith, some_words one_point (there z) (there m) 0 1)
points-least (multipoint s) = let n = length s.points in omega (arith, least-words false (there s.z) (there s.m) 0 n)
points-least (parted s) = let n = length (flatten s.parts) in omega (arith, least-words true (there s.z) (there s.m) (length s.parts) n)

-- ---- the entries of a list of shapes

abbrev pub entries_bytes : ℕ → List Shape → List ℕ
entries_bytes w ss = flatten (map entry_bytes (entries_from w ss))

pub entries_bytes_nil : (w : ℕ) → entries_bytes w [] ≡ []
unfolding entries_from flatten
entries_bytes_nil w = refl

pub entries_bytes_cons : (w : ℕ) (s : Shape) (ss : List Shape) → entries_bytes w (s ∷ ss) ≡ two_big w (shape_words s) ++ entries_bytes (w + (4 + shape_words s)) ss
unfolding entries_from flatten
entries_bytes_cons w s ss = refl

pub length-entries : (w : ℕ) (ss : List Shape) → length (entries_bytes w ss) ≡ 8 * length ss
unfolding entries_from flatten
length-entries w [] = refl
length-entries w (s ∷ ss) =
    let v = w + (4 + shape_words s) in
    omega (arith, length-append (two_big w (shape_words s)) (entries_bytes v ss), length_two w (shape_words s), length-entries v ss)

-- the word at which record i of them stands, where the first stands at word w
abbrev pub word_of : ℕ → List Shape → ℕ → ℕ
word_of w ss i = end_from w (take i ss)

pub entry_placed : (at w : ℕ) (ss : List Shape) (s : List ℕ) (i : ℕ) → Stands at (entries_bytes w ss) s → i < length ss
    → Stands (at + 8 * i) (two_big (word_of w ss i) (shape_words (get_or ss i null))) s
unfolding entries_from flatten end_from
entry_placed at w [] s i st h = absurd (omega arith)
entry_placed at w (q ∷ ss) s zero st h =
    rw add-zero (front at 8 (two_big w (shape_words q)) (entries_bytes (w + (4 + shape_words q)) ss) s (length_two w (shape_words q)) st)
entry_placed at w (q ∷ ss) s (suc i) st h =
    let place : at + 8 + 8 * i ≡ at + 8 * suc i = omega arith in
    let v = w + (4 + shape_words q) in
    let behind = back at 8 (two_big w (shape_words q)) (entries_bytes v ss) s (length_two w (shape_words q)) st in
    rw (← place) (entry_placed (at + 8) v ss s i behind (omega arith))

-- its numbers are held
pub held_at : (n w : ℕ) (ss : List Shape) (i : ℕ) → HeldFrom n w ss → i < length ss → Held (n + i) × Held (word_of w ss i) × Held (shape_words (get_or ss i null))
unfolding end_from
held_at n w [] i h j = absurd (omega arith)
held_at n w (q ∷ ss) zero h j = (rw add-zero h.0, h.1, h.2)
held_at n w (q ∷ ss) (suc i) h j =
    let number : n + 1 + i ≡ n + suc i = omega arith in
    rw (← number) (held_at (n + 1) (w + (4 + shape_words q)) ss i h.5 (omega arith))

-- ---- one record more behind the others: its number is one more than theirs, and it stands where they end

pub records_more : (k : Kind) (n : ℕ) (ss : List Shape) (s : Shape) → records_from k n (ss ++ s ∷ []) ≡ records_from k n ss ++ record_bytes (own_kind k s) (n + length ss) s
unfolding records_from
records_more k n [] s = rw (append-nil, add-zero)
records_more k n (r ∷ ss) s =
    let e : n + 1 + length ss ≡ n + suc (length ss) = omega arith in
    ap (λ (l : List ℕ). record_bytes (own_kind k r) n r ++ l) (records_more k (n + 1) ss s ∙ ap (λ (m : ℕ). records_from k (n + 1) ss ++ record_bytes (own_kind k s) m s) e)
    ∙ sym (append_assoc (record_bytes (own_kind k r) n r) (records_from k (n + 1) ss) (record_bytes (own_kind k s) (n + suc (length ss)) s))

pub end_more : (w : ℕ) (ss : List Shape) (s : Shape) → end_from w (ss ++ s ∷ []) ≡ end_from w ss + (4 + shape_words s)
unfolding end_from
end_more w [] s = refl
end_more w (r ∷ ss) s = end_more (w + (4 + shape_words r)) ss s

pub entries_more : (w : ℕ) (ss : List Shape) (s : Shape) → entries_bytes w (ss ++ s ∷ []) ≡ entries_bytes w ss ++ two_big (end_from w ss) (shape_words s)
unfolding entries_from end_from flatten
entries_more w [] s = append-nil _
entries_more w (r ∷ ss) s =
    let v = w + (4 + shape_words r) in
    ap (λ (l : List ℕ). two_big w (shape_words r) ++ l) (entries_more v ss s)
    ∙ sym (append_assoc (two_big w (shape_words r)) (entries_bytes v ss) (two_big (end_from v ss) (shape_words s)))

-- every number of theirs is held, and every one of those behind them
pub held_more : (n w : ℕ) (ss rs : List Shape) → HeldFrom n w ss → HeldFrom (n + length ss) (end_from w ss) rs → HeldFrom n w (ss ++ rs)
unfolding end_from
held_more n w [] rs h k = rw add-zero at k
held_more n w (r ∷ ss) rs h k =
    let number : n + suc (length ss) ≡ n + 1 + length ss = omega arith in
    (h.0, h.1, h.2, h.3, h.4, held_more (n + 1) (w + (4 + shape_words r)) ss rs h.5 (rw number at k))

-- ---- a pair of files, by bytes that are equal to its own

pub pair_same : (k : Kind) (box : Box) (ss : List Shape) (a b shp shx : List ℕ) → IsPair k box ss a b → a ≡ shp → b ≡ shx → IsPair k box ss shp shx
pair_same k box ss a b shp shx p e f =
    record { shp_is = p.shp_is ∙ e; shx_is = p.shx_is ∙ f; shp_held = p.shp_held; shx_held = p.shx_held; held = p.held }
