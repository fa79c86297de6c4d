-- Laws of sizes: what size minus 4 within i32 says of the size, and the size against a formula in words.
use mathlib.Core.Path.{◌≡◌, refl, sym, ap, ◌∙◌, subst}
use mathlib.Core.Bool.{Bool, true, false, ◌&&◌, ◌||◌, or-true}
use mathlib.Core.Option.{some}
use Prim.Native.Nat.{ℕ, suc, ◌+◌, ◌*◌, ◌-◌, ◌^◌, ◌≤◌, ◌<◌}
use native.Mathlib.Omega.{arith}
use lib.Dec.{T, ltb}
use lib.IntN.{ℤ, pos, negsuc, ◌-ℤ◌}
use lib.Signed.{lt_z}
use borrow.Author.Tests.{lt-ltb, le-ltb, ltb-true, ltb-false}
use Rattle.std.specs.Prelude.{Result, Ok, Err}
use Rattle.std.specs.Bool.{then_some}
use Rattle.std.specs.Result.{MatchResult}
use Rattle.format.specs.declared.kinds.Kind.{Kind}
use Rattle.format.specs.declared.lengths.Lengths.{Lengths}
use Rattle.format.specs.declared.units.Bytes.{Bytes}
use Rattle.format.specs.declared.units.NotWords.{NotWords}
use Rattle.format.specs.declared.units.Words.{Words}
use Rattle.format.specs.Lengths.{Form, several_form, content_words, form_of, lengths_for, lengths_of, formula_words}
use Rattle.format.specs.Units.{same_int, in_i32, said_words, in_words}
use Rattle.format.proofs.LengthLaws.{lengths_form}
use Rattle.format.proofs.Equations.{words_are}
use Rattle.format.proofs.UnitLaws.{same_no, words_doubled, no_words, doubled_same}
use Rattle.multipart.specs.declared.Counts.{Counts}
use Rattle.record.specs.Reading.{is_words, has_m, size_right}
use Rattle.record.specs.Steps.{Held, Sizes}

-- ---- size minus 4

small : (n : ℕ) → n < 4 → in_i32 (pos n -ℤ pos 4) ≡ true
small n h = rw (lt-ltb n 4 h) (lt-ltb (4 - suc n) (2 ^ 31) (omega arith))

large : (n : ℕ) → 4 ≤ n → in_i32 (pos n -ℤ pos 4) ≡ ltb (n - 4) (2 ^ 31)
large n h = rw (le-ltb n 4 h)

pub too_low : (z : ℤ) → lt_z z (negsuc 0x7fff_fffb) ≡ true → in_i32 (z -ℤ pos 4) ≡ false
too_low (pos n) e = absurd (subst T (sym e) tt)
too_low (negsuc n) e =
    let h : 0x7fff_fffb < n = ltb-true 0x7fff_fffb n e in
    le-ltb (suc (n + 3)) (2 ^ 31) (omega arith)

pub too_high : (z : ℤ) → lt_z (pos 0x8000_0003) z ≡ true → in_i32 (z -ℤ pos 4) ≡ false
too_high (pos n) e =
    let h : 0x8000_0003 < n = ltb-true 0x8000_0003 n e in
    large n (omega arith) ∙ le-ltb (n - 4) (2 ^ 31) (omega arith)
too_high (negsuc n) e = absurd (subst T (sym e) tt)

pub held : (z : ℤ) → lt_z z (negsuc 0x7fff_fffb) ≡ false → lt_z (pos 0x8000_0003) z ≡ false → in_i32 (z -ℤ pos 4) ≡ true
held (pos n) e f =
    let h : n ≤ 0x8000_0003 = ltb-false 0x8000_0003 n f in
    by (ltb n 4) refl h
  where
    by : (b : Bool) → ltb n 4 ≡ b → n ≤ 0x8000_0003 → in_i32 (pos n -ℤ pos 4) ≡ true
    by true e h = small n (ltb-true n 4 e)
    by false e h = large n (ltb-false n 4 e) ∙ lt-ltb (n - 4) (2 ^ 31) (omega arith)
held (negsuc n) e f =
    let h : n ≤ 0x7fff_fffb = ltb-false 0x7fff_fffb n e in
    lt-ltb (suc (n + 3)) (2 ^ 31) (omega arith)

below : (n : ℕ) → in_i32 (pos n -ℤ pos 4) ≡ true → n < 2 ^ 32
below n e = by (ltb n 4) refl
  where
    by : (b : Bool) → ltb n 4 ≡ b → n < 2 ^ 32
    by true t = let h : n < 4 = ltb-true n 4 t in omega arith
    by false t =
        let h : 4 ≤ n = ltb-false n 4 t in
        let k : n - 4 < 2 ^ 31 = ltb-true (n - 4) (2 ^ 31) (sym (large n h) ∙ e) in
        omega arith

-- ---- the size in words

module _ (size : Bytes) (h : Held size) where
  not_long : (w : ℕ) → 2 ^ 31 ≤ w → is_words size w ≡ false
  not_long w k =
      same_no size.0 (pos (2 * w))
      (λ e. let f : 2 * w < 2 ^ 32 = below (2 * w) (subst (λ (z : ℤ). in_i32 (z -ℤ pos 4) ≡ true) e h) in omega arith)

  -- a size that is no words is no formula's
  not_words : (r : Result Words NotWords) → said_words r ≡ in_words size → (f : NotWords) → r ≡ Err f → (w : ℕ) → false ≡ is_words size w
  not_words r e f g w = sym (by (ltb w (2 ^ 31)) refl)
    where
      by : (b : Bool) → ltb w (2 ^ 31) ≡ b → is_words size w ≡ false
      by true t = same_no size.0 (pos (2 * w)) (no_words size r e f g w (ltb-true w (2 ^ 31) t))
      by false t = not_long w (ltb-false w (2 ^ 31) t)

  -- and one that is some words is so many bytes where these are so many words
  pub in_words_size : (r : Result Words NotWords) → said_words r ≡ in_words size → (b : Bool) (w : ℕ) → MatchResult r (λ v. b ≡ same_int v.0 (pos w)) (λ _. b ≡ false) → b ≡ is_words size w
  in_words_size (Ok v) e b w h = h ∙ (doubled_same v.0 w ∙ ap (λ (z : ℤ). same_int z (pos (2 * w))) (words_doubled size (Ok v) e v refl))
  in_words_size (Err f) e b w h = h ∙ not_words (Err f) e f refl w

-- ---- the lengths of a kind of a form

pub lengths_by : (k : Kind) (l : Lengths) (form : Form) → lengths_of k ≡ some l → form_of k ≡ some form → l ≡ lengths_for k form
lengths_by k l form e f = let q = lengths_form k l e in let h : q.0 ≡ form = cc in q.2 ∙ ap (lengths_for k) h

-- ---- the two formulas of a kind with several points

-- the one without m, which they may lack
without_words : (k : Kind) (p n : ℕ) (f : Bool) → content_words (several_form f) k.z false p n ≡ formula_words (lengths_for k (several_form f)).without p n
without_words k p n true = words_are (several_form true) k.z false p n
without_words k p n false = words_are (several_form false) k.z false p n

module _ (k : Kind) (l : Lengths) (size : Bytes) (c : Counts) (g : lengths_of k ≡ some l) (h : form_of k ≡ some (several_form k.parts)) where
  abbrev form : Form
  form = several_form k.parts

  abbrev fits : Bool → Bool
  fits m = is_words size (content_words form k.z m c.parts c.points)

  with_is : is_words size (formula_words l.with c.parts c.points) ≡ fits k.m
  with_is =
      ap (λ (x : Lengths). is_words size (formula_words x.with c.parts c.points)) (lengths_by k l form g h) ∙ ap (is_words size) (sym (words_are form k.z k.m c.parts c.points))

  without_is : is_words size (formula_words l.without c.parts c.points) ≡ fits false
  without_is =
      ap (λ (x : Lengths). is_words size (formula_words x.without c.parts c.points)) (lengths_by k l form g h) ∙ ap (is_words size) (sym (without_words k c.parts c.points k.parts))

  -- with m, where the kind has it
  pub size_with : true ≡ is_words size (formula_words l.with c.parts c.points) → (size_right k size c ≡ true) × (has_m k size c ≡ k.m)
  size_with q = go k.m (sym (q ∙ with_is))
    where
      go : (m : Bool) → fits m ≡ true → ((fits false || (m && fits true)) ≡ true) × ((m && fits true) ≡ m)
      go true f = (rw f (or-true (fits false)), f)
      go false f = (rw f, refl)

  -- not that one, and so the other, which has no m, or neither
  pub size_without : false ≡ is_words size (formula_words l.with c.parts c.points) → (b : Bool) → b ≡ is_words size (formula_words l.without c.parts c.points) → Sizes k size c (then_some b false)
  size_without q b r = go b (sym (r ∙ without_is))
    where
      no_m : has_m k size c ≡ false
      no_m = by k.m (sym (q ∙ with_is))
        where
          by : (m : Bool) → fits m ≡ false → (m && fits true) ≡ false
          by true f = f
          by false f = refl

      go : (b : Bool) → fits false ≡ b → Sizes k size c (then_some b false)
      go true f = (rw f, no_m)
      go false f = rw f no_m
