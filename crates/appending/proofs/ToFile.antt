-- One record more in a file: its number is one more than the others', it stands where they end, and its kind is theirs or Null.
use mathlib.Core.Path.{◌≡◌, refl, sym, ap, ap₂, ◌∙◌}
use mathlib.Core.List.{List, [], ◌∷◌, ◌++◌}
use mathlib.Core.Option.{Option, some}
use Prim.Native.Nat.{ℕ, ◌+◌, ◌*◌, ◌-◌}
use native.Mathlib.Omega.{arith}
use lib.IntN.{ℤ, pos, nat_abs}
use lib.ListN.{length, length-append}
use Rattle.format.specs.declared.kinds.Kind.{Kind}
use Rattle.format.specs.Encoding.{record_bytes, entry_bytes, end_from, header_bytes, shape_words, Held, HeldFrom, IsPair}
use Rattle.format.specs.Kinds.{kind_at, kind_or}
use Rattle.format.specs.Shapes.{Shape, own_kind, points_in}
use Rattle.format.proofs.Equations.{records-nil, end_nil, shp_is, shx_is}
use Rattle.format.proofs.KindLaws
use Rattle.format.proofs.Records.{records_more, end_more, entries_more, held_more, pair_same}
use Rattle.header.specs.Box.{box_bits}
use Rattle.boxes.specs.Boxes.{settled}
use Rattle.rules.specs.Meaning.{all_points}
use Rattle.writer.specs.declared.State.{State}
use Rattle.writer.specs.Adding.{Lent, lent_kind, lent_shape, record_of, entry_of, words_then, points_then, next_state}
use Rattle.writer.specs.Finishing.{shp_header, shx_header}
use Rattle.writer.specs.State.{is_zero}
use Rattle.writer.proofs.Accepted.{Accepted, accepted, shape-fits, kind-first, kind_stays, own_next, next_room, next_fine}
use Rattle.writer.proofs.NextLaws.{words_next, number_next, points_next, shp-header, shx-header}
use Rattle.writer.proofs.StateLaws.{fine}
use Rattle.appending.specs.Files.{NullWithout, FileBehind, FileBeginning, PairBehind, kind_with, AppendingToFile}
use Rattle.appending.specs.OneMore.{KindBehind, Behind, records, entries}

pub file_begins : FileBeginning
file_begins =
    record {
      behind = record { words = ap pos (sym (end_nil 50)); number = refl; kind = refl; points = refl; held = tt };
      without = refl;
      end_held = rw end_nil (omega arith);
    }

-- ---- a state behind shapes: its numbers, and its headers in front of their records and entries

code-behind : (k : Kind) (ss : List Shape) (c : ℤ) → KindBehind k ss c → NullWithout k ss → nat_abs c ≡ k.code
code-behind k [] c e z = ap nat_abs e ∙ sym (ap (λ (i : Kind). i.code) z)
code-behind k (x ∷ ss) c e z = ap nat_abs (KindLaws.code_is c k e)

module _ (k : Kind) (ss : List Shape) (s : State) (b : Behind k ss s) where
  pub words_are : nat_abs s.words.0 ≡ end_from 50 ss
  words_are = ap nat_abs b.words

  number_is : nat_abs s.number ≡ 1 + length ss
  number_is = ap nat_abs b.number ∙ omega arith

  index_is : 50 + 4 * (nat_abs s.number - 1) ≡ 50 + 4 * length ss
  index_is = omega (arith, number_is)

pub pair-behind : PairBehind
pair-behind k ss s b f =
    let box = box_bits (settled s.bbox) in
    let code = code-behind k ss s.kind b.behind.kind b.without in
    record {
      shp_is = shp_is k box ss ∙ ap (λ (h : List ℕ). h ++ records k ss) (sym (shp-header s ∙ ap₂ (λ (w c : ℕ). header_bytes w 1000 c box) (words_are k ss s b.behind) code));
      shx_is = shx_is k box ss ∙ ap (λ (h : List ℕ). h ++ entries ss) (sym (shx-header s ∙ ap₂ (λ (w c : ℕ). header_bytes w 1000 c box) (index_is k ss s b.behind) code));
      shp_held = b.end_held;
      shx_held = omega (arith, (fine s f).room, words_are k ss s b.behind, number_is k ss s b.behind, b.end_held);
      held = b.behind.held;
    }

-- ---- one more

kind_more : (k : Kind) (ss : List Shape) (x : Shape) (c : ℤ) → kind_at c ≡ some k → KindBehind k (ss ++ x ∷ []) c
kind_more k [] x c e = e
kind_more k (y ∷ ss) x c e = e

not_without : (k : Kind) (ss : List Shape) (x : Shape) → NullWithout k (ss ++ x ∷ [])
not_without k [] x = tt
not_without k (y ∷ ss) x = tt

records_with : (k : Kind) (ss : List Shape) (t : Lent) → records (kind_with k ss t) ss ≡ records k ss
records_with k [] t = records-nil (lent_kind t) 1 ∙ sym (records-nil k 1)
records_with k (x ∷ ss) t = refl

points_more : (ss : List Shape) (x : Shape) → all_points (ss ++ x ∷ []) ≡ all_points ss + points_in x
points_more [] x = omega arith
points_more (y ∷ ss) x = omega (arith, points_more ss x)

module _ (k : Kind) (ss : List Shape) (s : State) (t : Lent) (b : Behind k ss s) (a : Accepted s t) where
  abbrev more : List Shape
  more = ss ++ lent_shape t ∷ []

  end_is : words_then s t ≡ end_from 50 more
  end_is = ap (λ (w : ℕ). w + (4 + shape_words (lent_shape t))) (words_are k ss s b) ∙ sym (end_more 50 ss (lent_shape t))

  count_is : nat_abs s.number + 1 ≡ length more + 1
  count_is = omega (arith, number_is k ss s b, length-append ss (lent_shape t ∷ []))

  points_are : points_then s t ≡ all_points more
  points_are = ap (λ (n : ℕ). n + points_in (lent_shape t)) b.points ∙ sym (points_more ss (lent_shape t))

  -- the kind that the next state names, and the record's own is a shape's in a file of it
  abbrev file : Kind
  file = kind_with k ss t

  pub file-named : kind_at (next_state s t).kind ≡ some file
  file-named = go ss b.kind (number_is k ss s b)
    where
      go : (ss : List Shape) → KindBehind k ss s.kind → nat_abs s.number ≡ 1 + length ss → kind_at (next_state s t).kind ≡ some (kind_with k ss t)
      go [] e n = ap kind_at (kind-first s t a (ap is_zero e)) ∙ a.kind
      go (x ∷ ss) e n = ap kind_at (kind_stays s t a (λ one. omega (arith, n))) ∙ e

  own_is : own_kind file (lent_shape t) ≡ lent_kind t
  own_is = ap (λ (o : Option Kind). own_kind (kind_or o) (lent_shape t)) (sym file-named) ∙ own_next s t a

  all_held : HeldFrom 1 50 more
  all_held =
      let f = shape-fits s t a in
      let n = number_is k ss s b in
      let w = words_are k ss s b in
      let number : Held (1 + length ss) = omega (arith, n, next_room s t a, a.held) in
      let word : Held (end_from 50 ss) = omega (arith, w, a.held) in
      held_more 1 50 ss (lent_shape t ∷ []) b.held (number, word, omega (arith, a.held), f.parts_held, f.points_held, tt)

  next_behind : FileBehind file more (next_state s t)
  next_behind =
      record {
        behind = record {
          words = words_next s t ∙ ap pos end_is;
          number = number_next s t ∙ ap pos count_is;
          kind = kind_more file ss (lent_shape t) (next_state s t).kind file-named;
          points = points_next s t ∙ points_are;
          held = all_held;
        };
        without = not_without file ss (lent_shape t);
        end_held = omega (arith, end_is, a.held);
      }

  appended : records file more ≡ records k ss ++ record_of s t
  appended =
      records_more file 1 ss (lent_shape t)
      ∙ (λ i. records_with k ss t i ++ record_bytes (own_is i) (sym (number_is k ss s b) i) (lent_shape t))

  indexed : entries more ≡ entries ss ++ entry_of s t
  indexed =
      entries_more 50 ss (lent_shape t)
      ∙ ap (λ (w : ℕ). entries ss ++ entry_bytes (record { offset = w; words = shape_words (lent_shape t) })) (sym (words_are k ss s b))

  pair : IsPair file (box_bits (settled (next_state s t).bbox)) more (shp_header (next_state s t) ++ (records k ss ++ record_of s t)) (shx_header (next_state s t) ++ (entries ss ++ entry_of s t))
  pair =
      pair_same file _ more _ _ _ _ (pair-behind file more (next_state s t) next_behind (next_fine s t a))
      (ap (◌++◌ (shp_header (next_state s t))) appended)
      (ap (◌++◌ (shx_header (next_state s t))) indexed)

pub appends_to_file : AppendingToFile
appends_to_file k ss s t out start entry n f e =
    let a = accepted s t out start entry n e in
    let b = f.behind in
    record {
      among = rw (own_is k ss s t b a) (shape-fits s t a).of_kind;
      behind = next_behind k ss s t b a;
      fine = next_fine s t a;
      appended = appended k ss s t b a;
      indexed = indexed k ss s t b a;
      pair = pair k ss s t b a;
    }
