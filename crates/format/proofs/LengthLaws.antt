-- Laws of content lengths and of a kind's form.
use mathlib.Core.Path.{◌≡◌, refl, sym, ap, ap₂, ◌∙◌, subst}
use mathlib.Core.Bool.{Bool, true, false, cond, ◌&&◌, ◌||◌, not}
use mathlib.Core.Option.{Option, none, some, map}
use Prim.Native.Nat.{ℕ, ◌+◌, ◌*◌, ◌^◌, ◌≤◌, ◌<◌}
use native.Mathlib.Omega.{arith}
use lib.Dec.{eqb, ltb}
use lib.IntN.{ℤ, pos}
use mir.Syntax.{w32}
use mir.Val.{SFits, of_z}
use borrow.Author.Tests.{ltb-true, ltb-false, eqb-true}
use Rattle.format.specs.declared.kinds.Kind.{Kind}
use Rattle.format.specs.declared.lengths.KindError.{KindError}
use Rattle.format.specs.declared.lengths.KindError.TheVariants.{Unknown, NotTaken}
use Rattle.std.specs.Prelude.{Result, Ok, Err}
use Rattle.std.specs.Prelude as Std
use Rattle.format.specs.declared.lengths.Formula.{Formula}
use Rattle.format.specs.declared.lengths.Lengths.{Lengths}
use Rattle.format.specs.declared.units.Words.{Words}
use Rattle.format.specs.Kinds.{null_kind, kinds, row_of, kind_at, kind_or}
use Rattle.format.specs.Lengths.{Form, nothing, one_point, many_points, parts, is_multipoint, has_several, form_of, form_in, form_at, several, several_form, front_words, fixed_words, point_words, content_words, formula, lengths_for, lengths_of, said_content, or_not_taken, lengths_in, content_of, formula_words, said_counted, counted}
use Rattle.format.specs.Said.{gives, unknown, not_taken, long}
use Rattle.format.specs.Shapes.{Shape, null, point, multipoint, parted, OfKind, own_kind}
use Rattle.format.specs.Units.{same_int}
use Rattle.format.proofs.KindLaws.{code_is, of_table}
use Rattle.format.proofs.UnitLaws.{same_no, by_bits}

pub content_none_at : (z : ℤ) → kind_at z ≡ none → unknown z ≡ content_of z
unfolding content_of
content_none_at z e = ap (lengths_in z) (sym e)

content-at : (z : ℤ) (k : Kind) → kind_at z ≡ some k → content_of z ≡ or_not_taken z (lengths_of k)
unfolding content_of
content-at z k e = ap (lengths_in z) e

-- no kind of the table is two of Null, a multipoint and in parts
abbrev plain : Bool → Bool → Bool → Bool
plain n m p = not (n && m) && not (n && p) && not (m && p)

plain_kind : (z : ℤ) (k : Kind) → kind_at z ≡ some k → plain (eqb k.code 0) (is_multipoint k) k.parts ≡ true
unfolding kinds is_multipoint
plain_kind = of_table (λ (k : Kind). plain (eqb k.code 0) (is_multipoint k) k.parts) refl

-- of several points, in parts where the flag is set: they may lack m
abbrev pub several_lengths : Bool → Kind → Lengths
several_lengths p k = record { without = formula (several_form p) k.z false; with = formula (several_form p) k.z k.m }

-- What is said of a kind of the table: its code tells that it is not taken, and that it is Null; of the others it has several points, or one.
pub content_by : (z : ℤ) (k : Kind) → kind_at z ≡ some k
    → content_of z ≡ cond (eqb k.code 31) (not_taken z) (gives (cond (eqb k.code 0) (lengths_for k nothing) (cond (has_several k) (several_lengths k.parts k) (lengths_for k one_point))))
unfolding lengths_of form_of
content_by z k e = content-at z k e ∙ go (eqb k.code 31) (eqb k.code 0) (is_multipoint k) k.parts (plain_kind z k e)
  where
    go : (u n m p : Bool) → plain n m p ≡ true
        → or_not_taken z (map (lengths_for k) (cond u none (cond n (some nothing) (cond m (some many_points) (cond p (some parts) (some one_point))))))
        ≡ cond u (not_taken z) (gives (cond n (lengths_for k nothing) (cond (p || m) (several_lengths p k) (lengths_for k one_point))))
    go true n m p t = refl
    go false true m p t = refl
    go false false true true t = absurd (let z : ◌≡◌ {A = ℕ} 0 1 = cc in omega arith)
    go false false true false t = refl
    go false false false true t = refl
    go false false false false t = refl

-- ---- the form of a kind: its lengths are those of its form, and a taken kind has the one that its code and flags say

module _ (k : Kind) where
  pub lengths_form : (l : Lengths) → lengths_of k ≡ some l → (form : Form) × (form_of k ≡ some form) × (l ≡ lengths_for k form)
  unfolding lengths_of
  lengths_form l e = go (form_of k) refl e
    where
      go : (o : Option Form) → form_of k ≡ o → map (lengths_for k) o ≡ some l → (form : Form) × (form_of k ≡ some form) × (l ≡ lengths_for k form)
      go none p q = absurd (let z : ◌≡◌ {A = ℕ} 0 1 = cc in omega arith)
      go (some form) p q = (form, p, cc)

  form-by : (form : Form) → form_of k ≡ some form → form ≡ cond (eqb k.code 0) nothing (cond (is_multipoint k) many_points (cond k.parts parts one_point))
  unfolding form_of
  form-by form e = go (eqb k.code 31) (eqb k.code 0) (is_multipoint k) k.parts e
    where
      go : (u z m p : Bool) → cond u none (cond z (some nothing) (cond m (some many_points) (cond p (some parts) (some one_point)))) ≡ some form
          → form ≡ cond z nothing (cond m many_points (cond p parts one_point))
      go true z m p e = absurd (let q : ◌≡◌ {A = ℕ} 0 1 = cc in omega arith)
      go false true m p e = cc
      go false false true p e = cc
      go false false false true e = cc
      go false false false false e = cc

  -- as `lengths_of` says it
  module _ (z : ℤ) (e : kind_at z ≡ some k) (c : Result Lengths KindError) (f : said_content c ≡ content_of z) where
    said : (c' : Result Lengths KindError) → c ≡ c' → said_content c' ≡ or_not_taken z (lengths_of k)
    said c' g = ap said_content (sym g) ∙ (f ∙ content-at z k e)

    pub content-none : (code : ℤ) → c ≡ Err (NotTaken code) → form_of k ≡ none
    unfolding lengths_of
    content-none code g = go (form_of k) (said (Err (NotTaken code)) g)
      where
        go : (o : Option Form) → not_taken code ≡ or_not_taken z (map (lengths_for k) o) → o ≡ none
        go none q = refl
        go (some form) q = absurd (let z : ◌≡◌ {A = ℕ} 0 1 = cc in omega arith)

    pub content_some : (l : Lengths) → c ≡ Ok l → lengths_of k ≡ some l
    content_some l g = go (lengths_of k) (said (Ok l) g)
      where
        go : (o : Option Lengths) → gives l ≡ or_not_taken z o → o ≡ some l
        go none q = absurd (let z : ◌≡◌ {A = ℕ} 0 1 = cc in omega arith)
        go (some x) q = cc

    -- a kind of the table is not unknown
    pub content-known : (code : ℤ) → c ≡ Err (Unknown code) → ⊥
    content-known code g = go (lengths_of k) (said (Err (Unknown code)) g)
      where
        go : (o : Option Lengths) → unknown code ≡ or_not_taken z o → ⊥
        go none q = let z : ◌≡◌ {A = ℕ} 4 9 = cc in omega arith
        go (some x) q = let z : ◌≡◌ {A = ℕ} 0 1 = cc in omega arith

-- and of a code whose kind is not looked up apart
module _ (z : ℤ) (c : Result Lengths KindError) (f : said_content c ≡ content_of z) where
  pub told-unknown : (code : ℤ) → c ≡ Err (Unknown code) → kind_at z ≡ none
  told-unknown code g = go (kind_at z) refl
    where
      go : (o : Option Kind) → kind_at z ≡ o → o ≡ none
      go none e = refl
      go (some k) e = absurd (content-known k z e c f code g)

  pub told-kind : (said_content c ≡ unknown z → ⊥) → (k : Kind) × (kind_at z ≡ some k)
  told-kind not = go (kind_at z) refl
    where
      go : (o : Option Kind) → kind_at z ≡ o → (k : Kind) × (o ≡ some k)
      go none e = absurd (not (f ∙ sym (content_none_at z e)))
      go (some k) e = (k, refl)

-- ---- what a kind's form says of its code and its parts

-- the kind has code 0, is a multipoint, and has parts, as these say
pub record Told (k : Kind) (null many parted : Bool) : Type 0 where
  pub null_is : eqb k.code 0 ≡ null
  pub many_is : is_multipoint k ≡ many
  pub parts_is : k.parts ≡ parted

abbrev pub Flags : Kind → Form → Type 0
Flags k nothing = Told k true false false
Flags k one_point = Told k false false false
Flags k many_points = Told k false true false
Flags k parts = Told k false false true

pub form_flags : (z : ℤ) (k : Kind) (f : Form) → kind_at z ≡ some k → form_of k ≡ some f → Flags k f
form_flags z k f h e = go (eqb k.code 0) (is_multipoint k) k.parts refl refl refl (plain_kind z k h) (form-by k f e)
  where
    go : (n m p : Bool) → eqb k.code 0 ≡ n → is_multipoint k ≡ m → k.parts ≡ p → plain n m p ≡ true
        → f ≡ cond n nothing (cond m many_points (cond p parts one_point)) → Flags k f
    go true true p a b c t e = absurd (let z : ◌≡◌ {A = ℕ} 0 1 = cc in omega arith)
    go true false true a b c t e = absurd (let z : ◌≡◌ {A = ℕ} 0 1 = cc in omega arith)
    go true false false a b c t e = rw e (record { null_is = a; many_is = b; parts_is = c })
    go false true true a b c t e = absurd (let z : ◌≡◌ {A = ℕ} 0 1 = cc in omega arith)
    go false true false a b c t e = rw e (record { null_is = a; many_is = b; parts_is = c })
    go false false true a b c t e = rw e (record { null_is = a; many_is = b; parts_is = c })
    go false false false a b c t e = rw e (record { null_is = a; many_is = b; parts_is = c })

-- a kind has several points where its form has
pub form-several : (k : Kind) (f : Form) → Flags k f → has_several k ≡ several f
form-several k nothing t = ap₂ ◌||◌ t.parts_is t.many_is
form-several k one_point t = ap₂ ◌||◌ t.parts_is t.many_is
form-several k many_points t = ap₂ ◌||◌ t.parts_is t.many_is
form-several k parts t = ap₂ ◌||◌ t.parts_is t.many_is

-- and then parts where its form has
pub form-parts : (k : Kind) (flag : Bool) → Flags k (several_form flag) → k.parts ≡ flag
form-parts k true t = t.parts_is
form-parts k false t = t.parts_is

-- and the kind's parts say which form that is
pub several-form : (k : Kind) (f : Form) → Flags k f → several f ≡ true → f ≡ several_form k.parts
several-form k nothing t e = absurd (let z : ◌≡◌ {A = ℕ} 0 1 = cc in omega arith)
several-form k one_point t e = absurd (let z : ◌≡◌ {A = ℕ} 0 1 = cc in omega arith)
several-form k many_points t e = ap several_form (sym t.parts_is)
several-form k parts t e = ap several_form (sym t.parts_is)

-- the form of a code is that of its kind
pub code_flags : (z : ℤ) (f : Form) → form_at z ≡ some f → Flags (kind_or (kind_at z)) f
code_flags z f e = go (kind_at z) refl e
  where
    go : (o : Option Kind) → kind_at z ≡ o → form_in o ≡ some f → Flags (kind_or o) f
    go none h e = absurd (let z : ◌≡◌ {A = ℕ} 0 1 = cc in omega arith)
    go (some k) h e = form_flags z k f h e

-- Null's kind is the table's, and taken
pub null_row : kind_at (pos 0) ≡ some null_kind
unfolding kinds row_of
null_row = refl

pub null-form : form_of null_kind ≡ some nothing
unfolding form_of
null-form = refl

-- and no other has code 0
pub null-kind : (z : ℤ) (k : Kind) → kind_at z ≡ some k → eqb k.code 0 ≡ true → k ≡ null_kind
null-kind z k e h =
    let n : kind_at z ≡ some null_kind = ap kind_at (code_is z k e ∙ ap pos (eqb-true k.code 0 h)) ∙ null_row in
    cc

-- ---- the kind of a shape's own record, in a file of its kind or, where it is Null, of any

pub own-kind : (z : ℤ) (k file : Kind) (s : Shape) → kind_at z ≡ some k → OfKind k s → (eqb k.code 0 ≡ false → file ≡ k) → own_kind file s ≡ k
own-kind z k file null e o same = sym (null-kind z k e (form_flags z k nothing e o).null_is)
own-kind z k file (point xy v w) e o same = same (form_flags z k one_point e o.form).null_is
own-kind z k file (multipoint s) e o same = same (form_flags z k many_points e o.form).null_is
own-kind z k file (parted s) e o same = same (form_flags z k parts e o.form).null_is

-- ---- what a formula comes to

least : (a b c : ℕ) → 2 ≤ a → 2 ≤ a + b + c
least a b c h = omega arith

-- several points take at least the words in front of them, and x and y
pub least-words : (f z m : Bool) (p n : ℕ) → front_words (several_form f) p + 8 * n ≤ content_words (several_form f) z m p n
unfolding content_words front_words fixed_words point_words
least-words true true true p n = omega arith
least-words true true false p n = omega arith
least-words true false true p n = omega arith
least-words true false false p n = omega arith
least-words false true true p n = omega arith
least-words false true false p n = omega arith
least-words false false true p n = omega arith
least-words false false false p n = omega arith

-- the kind's field at least
pub some_words : (f : Form) (z m : Bool) (p n : ℕ) → 2 ≤ content_words f z m p n
unfolding content_words fixed_words
some_words nothing z m p n = least _ _ _ (omega arith)
some_words one_point z m p n = least _ _ _ (omega arith)
some_words many_points z m p n = least _ _ _ (omega arith)
some_words parts z m p n = least _ _ _ (omega arith)

module _ (f : Formula) (p n : ℕ) (c : Std.Option Words) (e : said_counted c ≡ counted f p n) where
  pub counted-long : c ≡ Std.None → 2 ^ 31 ≤ formula_words f p n
  unfolding counted
  counted-long g = by (ltb (formula_words f p n) (2 ^ 31)) refl (ap said_counted (sym g) ∙ e)
    where
      by : (b : Bool) → ltb (formula_words f p n) (2 ^ 31) ≡ b → long {A = Words} ≡ cond b (gives (record { 0 = pos (formula_words f p n) })) long → 2 ^ 31 ≤ formula_words f p n
      by true t q = absurd (let z : ◌≡◌ {A = ℕ} 0 1 = cc in omega arith)
      by false t q = ltb-false _ _ t

  pub counted-held : (w : Words) → c ≡ Std.Some w → (formula_words f p n < 2 ^ 31) × (w ≡ record { 0 = pos (formula_words f p n) })
  unfolding counted
  counted-held w g = by (ltb (formula_words f p n) (2 ^ 31)) refl (ap said_counted (sym g) ∙ e)
    where
      by : (b : Bool) → ltb (formula_words f p n) (2 ^ 31) ≡ b → gives w ≡ cond b (gives (record { 0 = pos (formula_words f p n) })) long → (formula_words f p n < 2 ^ 31) × (w ≡ record { 0 = pos (formula_words f p n) })
      by true t q = (ltb-true _ _ t, cc)
      by false t q = absurd (let z : ◌≡◌ {A = ℕ} 0 1 = cc in omega arith)

-- so whether it comes to some words is settled by the counting
module _ (f : Formula) (p n : ℕ) (words : Words) (h : SFits w32 words.0) (c : Std.Option Words) (e : said_counted c ≡ counted f p n) where
  pub comes-to : (w : Words) → c ≡ Std.Some w → eqb (of_z w32 w.0) (of_z w32 words.0) ≡ same_int words.0 (pos (formula_words f p n))
  comes-to w g =
      let k = counted-held f p n c e w g in
      ap (λ (x : Words). eqb (of_z w32 x.0) (of_z w32 words.0)) k.1 ∙ by_bits w32 words.0 (pos (formula_words f p n)) h (record { sfits = k.0 })

  pub too_long : c ≡ Std.None → false ≡ same_int words.0 (pos (formula_words f p n))
  too_long g = sym (same_no words.0 (pos (formula_words f p n)) (λ q. over words.0 q h (counted-long f p n c e g)))
    where
      over : (z : ℤ) → z ≡ pos (formula_words f p n) → SFits w32 z → 2 ^ 31 ≤ formula_words f p n → ⊥
      over z q s l = omega (arith, (subst (SFits w32) q s).sfits)
