-- The rules of a record's header, entry and counts: what a rule that is met tells, and what the tests of the counts make of theirs.
use mathlib.Core.Path.{◌≡◌, refl, sym, ◌∙◌}
use mathlib.Core.Bool.{Bool, true, false, cond, ◌&&◌, ◌||◌}
use mathlib.Core.List.{List}
use mathlib.Core.Logic.{◌⊎◌, inl, inr, ⊎_elim}
use Prim.Native.Nat.{ℕ, ◌+◌, ◌*◌, ◌^◌, ◌≤◌, ◌<◌}
use native.Mathlib.Omega.{arith}
use lib.Dec.{leb, eqb}
use lib.ListN.{length}
use borrow.Author.Tests.{lt-ltb, ltb-true, leb-true, eqb-true}
use Rattle.format.specs.Lengths.{several_form, may_lack_m, front_words, content_words, lengths_for, formula_words}
use Rattle.format.proofs.Equations.{words_are}
use Rattle.format.proofs.LengthLaws.{least-words}
use Rattle.format.proofs.OrderLaws.{both_true}
use Rattle.rules.specs.Rules.{Taken, big_at, held, words_of, parts_of, points_of, P10, P11, P13}

-- ---- P10

pub record Inside (l : List ℕ) : Type 0 where
  pub held : words_of l < 2 ^ 31
  pub some : 2 ≤ words_of l
  pub within : 8 + 2 * words_of l ≤ length l

module _ (l : List ℕ) where
  pub told10 : P10 l ≡ true → Inside l
  told10 e =
      let a = both_true _ (leb (8 + 2 * words_of l) (length l)) e in
      let b = both_true _ (leb 2 (words_of l)) a.0 in
      record { held = ltb-true _ _ b.0; some = leb-true _ _ b.1; within = leb-true _ _ a.1 }

-- ---- P11

module _ (l x : List ℕ) (at : ℕ) where
  pub told11 : P11 l x at ≡ true → 8 ≤ length x
  told11 e = leb-true 8 (length x) (both_true _ _ (both_true _ _ (both_true _ (eqb (big_at 4 x) (words_of l)) e).0).0).0

-- ---- P13

-- some formula of the kind gives so many words
abbrev pub fits : Taken → ℕ → ℕ → ℕ → Bool
fits t p n words =
    eqb words (formula_words (lengths_for t.kind t.form).without p n) || eqb words (formula_words (lengths_for t.kind t.form).with p n)

pub fits13 : (t : Taken) (l : List ℕ) → P13 t l ≡ (held (parts_of t.form l) && held (points_of t.form l) && fits t (parts_of t.form l) (points_of t.form l) (words_of l))
fits13 t l = rw (words_are t.form t.kind.z (cond (may_lack_m t.form) false t.kind.m), words_are t.form t.kind.z t.kind.m)

either : (a b : Bool) → (a || b) ≡ true → (a ≡ true) ⊎ (b ≡ true)
either true b e = inl refl
either false b e = inr e

-- several points
module _ (f : Bool) (t : Taken) (l : List ℕ) (h : t.form ≡ several_form f) where
  abbrev p : ℕ
  p = parts_of (several_form f) l

  abbrev n : ℕ
  n = points_of (several_form f) l

  as_several : P13 t l ≡ (held p && held n && fits t p n (words_of l))
  as_several = fits13 t l ∙ rw h

  pub room13 : P13 t l ≡ true → front_words (several_form f) p + 8 * n ≤ words_of l
  room13 e =
      let without : Bool = cond (may_lack_m (several_form f)) false t.kind.m in
      let g : P13 (record { kind = t.kind; form = several_form f }) l ≡ true = rw h at e in
      ⊎_elim
      (λ q.
      let w : words_of l ≡ content_words (several_form f) t.kind.z without p n = eqb-true (words_of l) _ q in
      omega (arith, least-words f t.kind.z without p n))
      (λ q.
      let w : words_of l ≡ content_words (several_form f) t.kind.z t.kind.m p n = eqb-true (words_of l) _ q in
      omega (arith, least-words f t.kind.z t.kind.m p n))
      (either _ _ (both_true (held p && held n) _ g).1)

  -- the words in front of them have to be there
  pub few13 : (least : ℕ) → least ≤ front_words (several_form f) p → words_of l < least → false ≡ P13 t l
  few13 least b w = by (P13 t l) refl
    where
      by : (q : Bool) → P13 t l ≡ q → false ≡ q
      by true e = absurd (omega (arith, room13 e))
      by false e = refl

  pub last13 : (p' n' words : ℕ) → p ≡ p' → n ≡ n' → words_of l ≡ words → p' < 2 ^ 31 → n' < 2 ^ 31 → fits t p' n' words ≡ P13 t l
  last13 p' n' words e g w i j =
      let i' : p < 2 ^ 31 = rw e i in
      let j' : n < 2 ^ 31 = rw g j in
      sym (as_several ∙ (rw (lt-ltb p (2 ^ 31) i', lt-ltb n (2 ^ 31) j') (rw (e, g, w))))
