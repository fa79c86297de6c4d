-- Laws of the shape that is lent, by the kind that was found: its form, its words, and the tests of it.
use mathlib.Core.Path.{◌≡◌, refl, sym, ap, ◌∙◌}
use mathlib.Core.Bool.{Bool, true, false, cond, ◌&&◌, ◌||◌}
use mathlib.Core.List.{List, [], ◌∷◌}
use Prim.Native.Nat.{ℕ, ◌^◌}
use native.Mathlib.Omega.{arith}
use lib.Dec.{eqb, ltb}
use lib.Ieee.{Float}
use lib.ListN.{length}
use Rattle.format.specs.declared.kinds.Kind.{Kind}
use Rattle.format.specs.Encoding.{shape_words}
use Rattle.format.specs.Kinds.{kind_or}
use Rattle.format.specs.Lengths.{nothing, one_point, is_multipoint, has_several, several_form, formula, content_words, formula_words}
use Rattle.format.specs.Shapes.{null, there, points_in}
use Rattle.format.proofs.Equations as Equations
use Rattle.format.proofs.Equations.{words-point, points-null, points-point}
use Rattle.format.proofs.Laid.{nothing-words, null-words}
use Rattle.format.proofs.LengthLaws.{null-kind}
use Rattle.header.specs.declared.bbox.BBoxZ.{BBoxZ}
use Rattle.layouts.specs.Answers.{agree, counts_held}
use Rattle.layouts.specs.Steps.{Agreed}
use Rattle.layouts.specs.Tables.{several_of, points_lent}
use Rattle.layouts.proofs.TableLaws.{agreed, no_counts, points-in, words_in}
use Rattle.writer.specs.Adding.{Lent, form_or, lent_kind, lent_form, value_of, point_shape, lent_shape, lent_agree}
use Rattle.writer.specs.Judging.{OfCode, form_by, single, points_by, agree_by, shape_by, words_by}

-- ---- what is lent, by its form and by its kind

module _ (t : Lent) where
  pub lent_nothing : lent_form t ≡ nothing → lent_shape t ≡ null
  unfolding lent_shape
  lent_nothing e = rw e

  pub lent-point : lent_form t ≡ one_point → lent_shape t ≡ point_shape (lent_kind t) t.xs t.ys t.zs t.ms
  unfolding lent_shape
  lent-point e = rw e

  -- several points, in parts or as a multipoint
  pub lent-several : (parts : Bool) → lent_form t ≡ several_form parts → lent_shape t ≡ several_of parts (lent_kind t).z (lent_kind t).m t.box t.counts t.xs t.ys t.zs t.ms
  unfolding lent_shape
  lent-several true e = rw e
  lent-several false e = rw e

  pub several-agree : (parts : Bool) → lent_form t ≡ several_form parts → lent_agree t ≡ agree parts (lent_kind t).z (lent_kind t).m t.counts t.xs t.ys t.zs t.ms
  several-agree true e = rw e
  several-agree false e = rw e

-- a kind that has not several points has no parts
not_parts : (p m : Bool) → p || m ≡ false → p ≡ false
not_parts true m e = e
not_parts false m e = refl

module _ (t : Lent) (k : Kind) (o : OfCode t.code k) where
  pub lent-kind : lent_kind t ≡ k
  lent-kind = ap kind_or o.kind_is

  pub lent-form : lent_form t ≡ form_by k
  lent-form = ap form_or o.form_is

  pub agree-is : lent_agree t ≡ agree_by k t.counts t.xs t.ys t.zs t.ms
  agree-is = go (has_several k) (eqb k.code 0) refl refl
    where
      go : (s z : Bool) → has_several k ≡ s → eqb k.code 0 ≡ z → lent_agree t ≡ agree_by k t.counts t.xs t.ys t.zs t.ms
      go true z e f = several-agree t k.parts (rw e at lent-form) ∙ rw (e, o.kind_is)
      go false true e f = rw (o.form_is, e, f, null-kind t.code k o.kind_is f)
      go false false e f = rw (o.form_is, e, f, o.kind_is, not_parts k.parts (is_multipoint k) e)

  pub shape_is : lent_shape t ≡ shape_by k t.box t.counts t.xs t.ys t.zs t.ms
  shape_is = go (has_several k) (eqb k.code 0) refl refl
    where
      go : (s z : Bool) → has_several k ≡ s → eqb k.code 0 ≡ z → lent_shape t ≡ shape_by k t.box t.counts t.xs t.ys t.zs t.ms
      go true z e f = lent-several t k.parts (rw e at lent-form) ∙ rw (e, o.kind_is)
      go false true e f = lent_nothing t (rw (e, f) at lent-form) ∙ rw (e, f)
      go false false e f = lent-point t (rw (e, f) at lent-form) ∙ rw (e, f, o.kind_is)

-- ---- tables that agree

pub empty : {A : Type 0} (l : List A) → length l ≡ 0 → l ≡ []
empty [] e = refl
empty (x ∷ l) e = absurd (omega arith)

module _ (k : Kind) (counts : List ℕ) (xs ys zs ms : List Float) (e : agree_by k counts xs ys zs ms ≡ true) where
  both : ((k.parts || eqb (length counts) 0) ≡ true) × Agreed k.z k.m (points_by k counts xs) xs ys zs ms
  both = agreed (k.parts || eqb (length counts) 0) k.z k.m (points_by k counts xs) xs ys zs ms e

  pub tables : Agreed k.z k.m (points_by k counts xs) xs ys zs ms
  tables = both.1

  no_parts : has_several k ≡ false → counts ≡ []
  no_parts h = empty counts (no_counts k.parts (length counts) both.0 (not_parts k.parts (is_multipoint k) h))

  -- whatever the kind, without parts there is a point for each x
  points_are : points_by k counts xs ≡ points_lent k.parts counts xs
  points_are = go (has_several k) refl tables.xs_has
    where
      go : (s : Bool) → has_several k ≡ s → length xs ≡ cond s (points_lent k.parts counts xs) (single k) → cond s (points_lent k.parts counts xs) (single k) ≡ points_lent k.parts counts xs
      go true h a = refl
      go false h a = rw (not_parts k.parts (is_multipoint k) h) (sym a)

-- ---- the words of the shape, and its points

pub there-value : (flag : Bool) (vs : List Float) → length vs ≡ cond flag 1 0 → there (value_of flag vs) ≡ flag
there-value true [] e = absurd (omega arith)
there-value true (x ∷ vs) e = refl
there-value false vs e = refl

point-words : (k : Kind) (xs ys zs ms : List Float) → Agreed k.z k.m 1 xs ys zs ms → shape_words (point_shape k xs ys zs ms) ≡ content_words one_point k.z k.m 0 1
point-words k [] ys zs ms a = absurd (omega (arith, a.xs_has))
point-words k (x ∷ xs) [] zs ms a = absurd (omega (arith, a.ys_has))
point-words k (x ∷ xs) (y ∷ ys) zs ms a = rw (words-point, there-value k.z zs a.zs_has, there-value k.m ms a.ms_has)

point-points : (k : Kind) (xs ys zs ms : List Float) → Agreed k.z k.m 1 xs ys zs ms → points_in (point_shape k xs ys zs ms) ≡ 1
point-points k [] ys zs ms a = absurd (omega (arith, a.xs_has))
point-points k (x ∷ xs) [] zs ms a = absurd (omega (arith, a.ys_has))
point-points k (x ∷ xs) (y ∷ ys) zs ms a = points-point _ _ _

module _ (k : Kind) (b : BBoxZ) (counts : List ℕ) (xs ys zs ms : List Float) (e : agree_by k counts xs ys zs ms ≡ true) where
  pub words_are : shape_words (shape_by k b counts xs ys zs ms) ≡ words_by k counts xs
  words_are = go (has_several k) (eqb k.code 0) refl refl (tables k counts xs ys zs ms e)
    where
      go : (s z : Bool) → has_several k ≡ s → eqb k.code 0 ≡ z → Agreed k.z k.m (points_by k counts xs) xs ys zs ms → shape_words (shape_by k b counts xs ys zs ms) ≡ words_by k counts xs
      go true z q r a = rw q (words_in k.z k.m b counts xs ys zs ms k.parts (both k counts xs ys zs ms e).0 (rw q at a))
      go false true q r a = rw (q, r, no_parts k counts xs ys zs ms e q) (null-words ∙ sym (nothing-words k.z k.m))
      go false false q r a = rw (q, r, no_parts k counts xs ys zs ms e q) (point-words k xs ys zs ms (rw (q, r) at a))

  -- a point for each x
  pub points-lent : points_in (shape_by k b counts xs ys zs ms) ≡ length xs
  points-lent = go (has_several k) (eqb k.code 0) refl refl (tables k counts xs ys zs ms e) ∙ sym (tables k counts xs ys zs ms e).xs_has
    where
      go : (s z : Bool) → has_several k ≡ s → eqb k.code 0 ≡ z → Agreed k.z k.m (points_by k counts xs) xs ys zs ms → points_in (shape_by k b counts xs ys zs ms) ≡ points_by k counts xs
      go true z q r a = rw q (points-in k.z k.m b counts xs ys zs ms k.parts (rw q at a))
      go false true q r a = rw (q, r) points-null
      go false false q r a = rw (q, r) (point-points k xs ys zs ms (rw (q, r) at a))

  pub counts-held : ltb (length counts) (2 ^ 31) && ltb (points_by k counts xs) (2 ^ 31) ≡ counts_held k.parts counts xs
  counts-held = ap (λ (n : ℕ). ltb (length counts) (2 ^ 31) && ltb n (2 ^ 31)) (points_are k counts xs ys zs ms e)

pub formula-words : (k : Kind) (counts : List ℕ) (xs : List Float) → formula_words (formula (form_by k) k.z k.m) (length counts) (points_by k counts xs) ≡ words_by k counts xs
formula-words k counts xs = sym (Equations.words_are (form_by k) k.z k.m (length counts) (points_by k counts xs))
