-- Laws of the judge of a shape: what the answers of its three judges say of the tests in document 01's order.
use mathlib.Core.Path.{◌≡◌, refl, sym, ap, ◌∙◌, subst}
use mathlib.Core.Bool.{Bool, true, false, cond, ◌&&◌}
use Prim.Native.Nat.{ℕ, ◌+◌, ◌-◌, ◌^◌, min}
use native.Mathlib.Omega.{arith}
use lib.Dec.{leb, ltb}
use lib.IntN.{nat_abs}
use lib.ListN.{length}
use borrow.Author.Tests.{leb-true, ltb-true}
use Rattle.format.specs.declared.kinds.Kind.{Kind}
use Rattle.format.specs.declared.lengths.Formula.{Formula}
use Rattle.format.specs.declared.units.Bytes.{Bytes}
use Rattle.format.specs.declared.units.Words.{Words}
use Rattle.format.specs.Encoding.{shape_words}
use Rattle.format.specs.Lengths.{formula, formula_words}
use Rattle.format.specs.Said.{gives}
use Rattle.format.proofs.OrderLaws.{both_true}
use Rattle.layouts.specs.Answers.{counts_held}
use Rattle.writer.specs.declared.State.{State}
use Rattle.std.specs.Prelude.{Result, Ok, Err}
use Rattle.std.specs.Prelude as Std
use Rattle.writer.specs.declared.AddError.{AddError}
use Rattle.writer.specs.declared.AddError.TheVariants.{Tables, Long, Room}
use Rattle.writer.specs.declared.judge.Judged.{Judged}
use Rattle.writer.specs.Adding.{Lent, lent_kind, lent_shape, lent_agree, words_then, held_then, record_size, shape_tests, adding_of}
use Rattle.writer.specs.Judging.{words_of, bytes_of, words_with, record_bytes_of, OfCode, form_by, points_by, agree_by, tables_judged, length_judged, room_judged, KindFine, KindRefused, Passed, Refused, JudgesShape, AllRefused, Judges}
use Rattle.writer.specs.State.{state_fine}
use Rattle.writer.proofs.LengthLaws.{record-bytes}
use Rattle.writer.proofs.ShapeLaws.{lent-kind, agree-is, tables, shape_is, words_are, counts-held, formula-words}
use Rattle.writer.proofs.StateLaws.{fine, words_natural}

-- ---- an answer says how its test came out

module _ {A : Type 0} where
  not_ok : (b : Bool) (x : A) (e' e : AddError) → cond b (Ok x) (Err e') ≡ Err e → (b ≡ false) × (e' ≡ e)
  not_ok true x e' e h = absurd (let z : ◌≡◌ {A = ℕ} 0 1 = cc in omega arith)
  not_ok false x e' e h = (refl, cc)

  is-ok : (b : Bool) (x y : A) (e' : AddError) → cond b (Ok x) (Err e') ≡ Ok y → (b ≡ true) × (x ≡ y)
  is-ok true x y e' h = (refl, cc)
  is-ok false x y e' h = absurd (let z : ◌≡◌ {A = ℕ} 0 1 = cc in omega arith)

  not_some : (b : Bool) (x : A) → cond b (Std.Some x) Std.None ≡ Std.None → b ≡ false
  not_some true x h = absurd (let z : ◌≡◌ {A = ℕ} 0 1 = cc in omega arith)
  not_some false x h = refl

  is-some : (b : Bool) (x y : A) → cond b (Std.Some x) Std.None ≡ Std.Some y → (b ≡ true) × (x ≡ y)
  is-some true x y h = (refl, cc)
  is-some false x y h = absurd (let z : ◌≡◌ {A = ℕ} 0 1 = cc in omega arith)

-- ---- the tests of a shape

module _ (s : State) (t : Lent) (k : Kind) (o : OfCode t.code k) (ok : state_fine s ≡ true) (f : Formula) (fe : f ≡ formula (form_by k) k.z k.m) (out start entry : ℕ) where
  pub refused-tables : (e : AddError) → tables_judged k t.counts t.xs t.ys t.zs t.ms ≡ Err e → Refused s t out start entry e
  refused-tables e h =
      let q = not_ok (agree_by k t.counts t.xs t.ys t.zs t.ms) (length t.xs) Tables e h in
      subst (Refused s t out start entry) q.1 (record { says = rw (agree-is t k o ∙ q.0) })

  module _ (n : ℕ) (h : tables_judged k t.counts t.xs t.ys t.zs t.ms ≡ Ok n) where
    yes : agree_by k t.counts t.xs t.ys t.zs t.ms ≡ true
    yes = (is-ok (agree_by k t.counts t.xs t.ys t.zs t.ms) (length t.xs) n Tables h).0

    points : points_by k t.counts t.xs ≡ n
    points = sym (tables k t.counts t.xs t.ys t.zs t.ms yes).xs_has ∙ (is-ok (agree_by k t.counts t.xs t.ys t.zs t.ms) (length t.xs) n Tables h).1

    agrees : lent_agree t ≡ true
    agrees = agree-is t k o ∙ yes

    shape-words : shape_words (lent_shape t) ≡ formula_words f (length t.counts) n
    shape-words =
        ap shape_words (shape_is t k o)
        ∙ (words_are k t.box t.counts t.xs t.ys t.zs t.ms yes
        ∙ (sym (formula-words k t.counts t.xs)
        ∙ (λ i. formula_words (sym fe i) (length t.counts) (points i))))

    abbrev formula-content : Words
    formula-content = words_of (formula_words f (length t.counts) n)

    words-is : words_then s t ≡ words_with s.words formula-content
    words-is = λ i. sym (words_natural s (fine s ok)) i + (4 + shape-words i)

    counts-lent : counts_held (lent_kind t).parts t.counts t.xs ≡ counts_held k.parts t.counts t.xs
    counts-lent = ap (λ (i : Kind). counts_held i.parts t.counts t.xs) (lent-kind t k o)

    test : Bool
    test = ltb (length t.counts) (2 ^ 31) && ltb n (2 ^ 31) && ltb (words_with s.words formula-content) (2 ^ 31)

    held-is : held_then s t ≡ test
    unfolding test
    held-is = rw (counts-lent, ← counts-held k t.box t.counts t.xs t.ys t.zs t.ms yes, points, words-is)

    pub refused-long : length_judged s.words f (length t.counts) n ≡ Std.None → Refused s t out start entry Long
    unfolding test
    refused-long l = record { says = rw (agrees, held-is ∙ not_some test (formula-content, words_of (words_with s.words formula-content)) l) }

    module _ (w : Words × Words) (l : length_judged s.words f (length t.counts) n ≡ Std.Some w) where
      held-words : (test ≡ true) × (◌≡◌ {A = Words × Words} (formula-content, words_of (words_with s.words formula-content)) w)
      unfolding test
      held-words = is-some test (formula-content, words_of (words_with s.words formula-content)) w l

      held : held_then s t ≡ true
      held = held-is ∙ held-words.0

      content-is : w.0 ≡ words_of (shape_words (lent_shape t))
      content-is = sym (ap (λ (v : Words × Words). v.0) held-words.1) ∙ ap words_of (sym shape-words)

      module _ (size : Bytes) (ze : size ≡ record_bytes_of w.0) where
        size_is : size ≡ bytes_of (record_size t)
        size_is = ze ∙ record-bytes (shape_words (lent_shape t)) w.0 content-is

        bytes_are : nat_abs size.0 ≡ record_size t
        bytes_are = ap (λ (b : Bytes). nat_abs b.0) size_is

        abbrev needed : AddError
        needed = Room (min (start + record_size t) (2 ^ 64 - 1))

        room_by : (a b : Bool) (e : AddError) → leb (start + record_size t) out ≡ a → leb 8 entry ≡ b → cond a (cond b (Ok (tt {0})) (Err (Room 8))) (Err needed) ≡ Err e → Refused s t out start entry e
        room_by true true e p q h = absurd (let z : ◌≡◌ {A = ℕ} 0 1 = cc in omega arith)
        room_by true false e p q h = let r : Room 8 ≡ e = cc in subst (Refused s t out start entry) r (record { says = rw (agrees, held, p, q) })
        room_by false b e p q h = let r : needed ≡ e = cc in subst (Refused s t out start entry) r (record { says = rw (agrees, held, p) })

        pub refused-room : (e : AddError) → room_judged (nat_abs size.0) out start entry ≡ Err e → Refused s t out start entry e
        refused-room e h = room_by _ _ e refl refl (ap (λ (z : ℕ). room_judged z out start entry) (sym bytes_are) ∙ h)

        fits_by : (a b : Bool) (u : Unit {0}) → cond a (cond b (Ok (tt {0})) (Err (Room 8))) (Err needed) ≡ Ok u → (a ≡ true) × (b ≡ true)
        fits_by true true u h = (refl, refl)
        fits_by true false u h = absurd (let z : ◌≡◌ {A = ℕ} 0 1 = cc in omega arith)
        fits_by false b u h = absurd (let z : ◌≡◌ {A = ℕ} 0 1 = cc in omega arith)

        pub passed : (u : Unit {0}) → room_judged (nat_abs size.0) out start entry ≡ Ok u → Passed s t out start entry (record { kind = k; content = w.0; after = w.1; size = size })
        passed u h =
            let r = fits_by _ _ u (ap (λ (z : ℕ). room_judged z out start entry) (sym bytes_are) ∙ h) in
            let g = both_true _ _ held in
            record {
              of_code = o;
              agrees = yes;
              counts-held = sym counts-lent ∙ g.0;
              held = ltb-true _ _ g.1;
              words_are = content-is;
              after_is = sym (ap (λ (v : Words × Words). v.1) held-words.1) ∙ ap words_of (sym words-is);
              size_is = size_is;
              room = leb-true _ _ r.0;
              entry_room = leb-true _ _ r.1;
              passes = rw (agrees, held, r.0, r.1);
            }

-- ---- all tests, by the kind's and the shape's

module _ (s : State) (t : Lent) (out start entry : ℕ) where
  pub refused-kind : (e : AddError) → KindRefused s t.code e → AllRefused s t out start entry e
  unfolding adding_of
  refused-kind e r = record { says = r.says (shape_tests s t out start entry) (gives (record_size t)) }

  pub judged : (k : Kind) (f : Formula) → KindFine s t.code k f → (r : Result Judged AddError) → JudgesShape s t out start entry r → Judges s t out start entry r
  unfolding adding_of
  judged k f h (Ok j) p =
      record {
        fine = h.fine;
        shape = p;
        says = ap (λ (b : Bytes). gives (nat_abs b.0)) p.size_is ∙ sym (h.passes (shape_tests s t out start entry) (gives (record_size t)) ∙ p.passes);
      }
  judged k f h (Err e) p = record { says = p.says ∙ sym (h.passes (shape_tests s t out start entry) (gives (record_size t))) }
