-- The theorems: reading the encoding of a shape gives that shape, and the stores get its tables, m raised.
use mathlib.Core.Path.{◌≡◌, refl, ◌∙◌}
use mathlib.Core.Bool.{Bool, true, false}
use mathlib.Core.List.{List, flatten}
use mathlib.Core.Option.{Option, some}
use Prim.Native.Nat.{ℕ}
use native.Mathlib.Omega.{arith}
use lib.IntN.{pos}
use lib.ListN.{length}
use Rattle.format.specs.declared.kinds.Kind.{Kind}
use Rattle.format.specs.Encoding.{content, shape_bytes, shape_words}
use Rattle.format.specs.Lengths.{several_form, form_of, content_words}
use Rattle.format.specs.Said.{gives}
use Rattle.format.specs.Shapes.{Point, BoxXY, Measure, Shape, null, point, multipoint, parted, there}
use Rattle.format.proofs.Equations.{words-multipoint, words-parted}
use Rattle.format.proofs.Laid.{content-behind}
use Rattle.format.proofs.LengthLaws.{form_flags, form-parts}
use Rattle.multipart.specs.declared.Counts.{Counts}
use Rattle.multipart.specs.Answers.{counts_of}
use Rattle.record.specs.Reading.{several_shape, has_m, size_right, several_of}
use Rattle.record.proofs.ShapeLaws
use Rattle.rules.specs.Meaning.{TakenKind}
use Rattle.meaning.proofs.Decode.{if_only}
use Rattle.readback.specs.ReadBack.{body_as, size, RoomFor, ReadsBack, StoresBack}
use Rattle.readback.proofs.Contents.{code-back, kind-back, read_as}
use Rattle.readback.proofs.InBody.{LaidOut, x_are, y_are, z_are, m_are, body-said}
use Rattle.readback.proofs.InMultipoint
use Rattle.readback.proofs.InParts
use Rattle.readback.proofs.Points.{point-said}
use Rattle.readback.proofs.Sizes.{m-there, formula-there}

pub stores_back : StoresBack
stores_back k null o v small = tt
stores_back k (point xy z m) o v small = tt
stores_back k (multipoint s) o v small =
    let a = InMultipoint.laid_out k s o v small in
    rw (content-behind k (multipoint s)) (InMultipoint.counts_are k s o v small, x_are false k _ _ _ _ _ _ a, y_are false k _ _ _ _ _ _ a, z_are false k _ _ _ _ _ _ a, m_are false k _ _ _ _ _ _ a)
stores_back k (parted s) o v small =
    let a = InParts.laid_out k s o v small in
    rw (content-behind k (parted s)) (InParts.counts_are k s o v small, x_are true k _ _ _ _ _ _ a, y_are true k _ _ _ _ _ _ a, z_are true k _ _ _ _ _ _ a, m_are true k _ _ _ _ _ _ a)

-- a shape of several points, in p parts or as a multipoint
module _ (f : Bool) (k : Kind) (s : Shape) (p : ℕ) (box : BoxXY) (ps : List Point) (z m : Option Measure) (t : TakenKind k) (a : LaidOut f k (shape_bytes s) p box ps z m)
    (flag : k.parts ≡ f) (none : f ≡ false → p ≡ 0) (words : shape_words s ≡ content_words (several_form f) (there z) (there m) p (length ps)) where
  abbrev two : Counts
  two = record { parts = p; points = length ps }

  has-m : has_m k (size s) two ≡ there m
  has-m = rw (flag, words, ← a.of_kind.has_z) (m-there f (there z) p (length ps) none k.m (there m) (if_only k.m m a.of_kind.may_have_m))

  size-right : size_right k (size s) two ≡ true
  size-right = rw (has-m, flag, words, ← a.of_kind.has_z) (formula-there f (there z) p (length ps) none (there m))

  several-said : counts_of f (shape_bytes s) ≡ gives two → (counts xs ys zs ms : ℕ) → RoomFor p (length ps) z m counts xs ys zs ms
      → several_of k (size s) (content k s) counts xs ys zs ms ≡ gives (several_shape f (pos k.code) (there m) (body_as p box ps z m))
  several-said c counts xs ys zs ms room =
      ShapeLaws.several-said k (size s) (content k s) counts xs ys zs ms two (body_as p box ps z m)
      (rw (content-behind k s, flag) c) size-right
      (rw (content-behind k s, has-m, flag, ← a.of_kind.has_z) (body-said f k (shape_bytes s) p box ps z m a counts xs ys zs ms room))
      ∙ rw (code-back k s t, has-m, flag)

-- the kind's flag, by its form
flag_of : (k : Kind) (f : Bool) → TakenKind k → form_of k ≡ some (several_form f) → k.parts ≡ f
flag_of k f t e = form-parts k f (form_flags (pos k.code) k (several_form f) t.in_table e)

pub reads_back : ReadsBack
reads_back k null t o v small =
    record { kind_is = kind-back k null t; answer = λ counts xs ys zs ms room. read_as k null t o small counts xs ys zs ms ∙ rw o; stores = tt }
reads_back k (point xy z m) t o v small =
    record {
      kind_is = kind-back k (point xy z m) t;
      answer = λ counts xs' ys' zs ms room. read_as k (point xy z m) t o small counts xs' ys' zs ms ∙ rw o.form (point-said k xy z m t o v);
      stores = tt;
    }
reads_back k (multipoint s) t o v small =
    record {
      kind_is = kind-back k (multipoint s) t;
      answer =
          λ counts xs ys zs ms room.
          read_as k (multipoint s) t o small counts xs ys zs ms
          ∙ rw o.form
          (several-said false k (multipoint s) 0 s.box s.points s.z s.m t (InMultipoint.laid_out k s o v small) (flag_of k false t o.form) (λ e. refl)
          (words-multipoint s) (InMultipoint.counts-said k s o v small) counts xs ys zs ms room);
      stores = stores_back k (multipoint s) o v small;
    }
reads_back k (parted s) t o v small =
    record {
      kind_is = kind-back k (parted s) t;
      answer =
          λ counts xs ys zs ms room.
          read_as k (parted s) t o small counts xs ys zs ms
          ∙ rw o.form
          (several-said true k (parted s) (length s.parts) s.box (flatten s.parts) s.z s.m t (InParts.laid_out k s o v small) (flag_of k true t o.form)
          (λ e. absurd (let q : ◌≡◌ {A = ℕ} 0 1 = cc in omega arith)) (words-parted s) (InParts.counts-said k s o v small) counts xs ys zs ms room);
      stores = stores_back k (parted s) o v small;
    }
