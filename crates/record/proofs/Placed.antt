-- The refusals of reading a record that name a place lie within its content: those of a body are the body's, moved by the kind's field.
use mathlib.Core.Path.{◌≡◌, refl, ap, subst}
use mathlib.Core.Bool.{Bool, true, false, cond, ◌&&◌, ◌||◌, not}
use mathlib.Core.List.{List, [], ◌∷◌, ◌++◌}
use mathlib.Core.Option.{Option, none, some}
use Prim.Native.Nat.{ℕ, ◌+◌, ◌-◌, ◌≤◌, zero-le}
use native.Mathlib.Omega.{arith}
use lib.Dec.{eqb, lit<}
use lib.IntN.{ℤ, pos, ◌-ℤ◌}
use lib.ListN.{length, drop, length-drop}
use borrow.Author.Tests.{le-leb}
use Rattle.format.specs.declared.kinds.Kind.{Kind}
use Rattle.format.specs.declared.units.Bytes.{Bytes}
use Rattle.format.specs.Kinds.{known}
use Rattle.format.specs.Lengths.{Form, nothing, one_point, many_points, parts, several_form, content_words, form_at}
use Rattle.format.specs.Order.{first}
use Rattle.format.specs.Said.{Said, gives, refuses, not_taken}
use Rattle.format.specs.Units.{same_int, in_i32}
use Rattle.format.proofs.LengthLaws.{Flags, code_flags}
use Rattle.format.proofs.OrderLaws.{first-append}
use Rattle.format.proofs.Placed.{ValuesPlaced, Placed, elsewhere, size_placed, test_placed, field_placed, fields_placed}
use Rattle.multipart.specs.Answers.{counts_of}
use Rattle.multipart.specs.Body.{body_width, body_of}
use Rattle.multipart.proofs.Placed.{counts_placed, body_placed}
use Rattle.std.specs.Prelude as Std
use Rattle.record.specs.Reading.{Shaped, code_in, kind_in, is_taken, wanted_tests, mismatch_tests, found_tests, is_words, doubles_of, point_of, ahead, moved, and_then, has_m, size_right, several_of, by_form, record_of, width_by, content_width}

-- ---- behind the kind's field, in a content of a form

-- the body's fields are the content's, by whether it has parts
several_width : (f : Bool) (b : List ℕ) (at : ℕ) → width_by (some (several_form f)) b at ≡ body_width f b at
several_width true b at = refl
several_width false b at = refl

module _ (f : Bool) (s : List ℕ) (h : 4 ≤ length s) where
  abbrev W : ℕ → ℕ
  W = content_width (some (several_form f)) s

  moved_by : (A : Type 0) (b : Bool) (n : ℕ) (values : List ℤ) → eqb n 1 || eqb n 3 ≡ b → ValuesPlaced (body_width f (drop 4 s)) (drop 4 s) n values → Placed W s {A = A} (cond b (refuses n (ahead values)) (refuses n values))
  moved_by A true n values e p = (
    (λ i.
        let q = p.0 i in
        let l = length-drop 4 s in
        let b : 4 + q.at - 4 ≡ q.at = omega arith in
        record { at = 4 + q.at; present = q.present; are = ap ahead q.are; ends = omega (arith, q.ends, l); fewer = rw (le-leb 4 (4 + q.at) (omega arith), b, several_width f (drop 4 s) q.at) q.fewer }),
    (λ i.
        let q = p.1 i in
        let l = length-drop 4 s in
        record { at = 4 + q.at; are = ap ahead q.are; near = omega (arith, q.near, l) }),
  )
  moved_by A false n values e p = elsewhere W s n values e

  moved_placed : {A : Type 0} (said : Said A) → Placed (body_width f (drop 4 s)) (drop 4 s) said → Placed W s (moved said)
  moved_placed (gives a) p = tt
  moved_placed {A = A} (refuses n values) p = moved_by A (eqb n 1 || eqb n 3) n values refl p

then_placed : (width : ℕ → ℕ) (s : List ℕ) {A B : Type 0} (said : Said A) (f : A → Said B) → Placed width s said → ((a : A) → Placed width s (f a)) → Placed width s (and_then said f)
then_placed width s (gives a) f p q = q a
then_placed width s (refuses n values) f p q = p

module _ (k : Kind) (size : Bytes) (s : List ℕ) (h : 4 ≤ length s) where
  point_placed : Placed (content_width (some one_point) s) s (point_of k size s)
  unfolding point_of
  point_placed =
      let w = content_width (some one_point) s in
      test_placed w s (is_words size (content_words one_point k.z k.m 0 1)) _ _ (size_placed w s 0 zero-le)
      (λ e. fields_placed w s 8 (doubles_of k) 4 (lit< tt) h (λ p i j. rw (le-leb 4 p i)) _ (λ l. tt))

  module _ (counts xs ys zs ms : ℕ) where
    several_placed : Placed (content_width (some (several_form k.parts)) s) s (several_of k size s counts xs ys zs ms)
    unfolding several_of
    several_placed =
        let w = content_width (some (several_form k.parts)) s in
        let b = drop 4 s in
        let two = counts_of k.parts b in
        then_placed w s (moved two) _ (moved_placed k.parts s h two (counts_placed k.parts b))
        (λ two.
        let body = body_of k.parts k.z (has_m k size two) b counts xs ys zs ms in
        test_placed w s (size_right k size two) _ _ (size_placed w s 0 zero-le)
        (λ e. then_placed w s (moved body) _ (moved_placed k.parts s h body (body_placed k.parts k.z (has_m k size two) b counts xs ys zs ms)) (λ read. tt)))

    -- in the form that the kind's parts say
    several_form_placed : (f : Bool) → k.parts ≡ f → Placed (content_width (some (several_form f)) s) s (several_of k size s counts xs ys zs ms)
    several_form_placed f e = subst (λ (x : Bool). Placed (content_width (some (several_form x)) s) s (several_of k size s counts xs ys zs ms)) e several_placed

    form_placed : (form : Option Form) → ((f : Form) → form ≡ some f → Flags k f) → Placed (content_width form s) s (by_form form k size s counts xs ys zs ms)
    form_placed none flags = elsewhere (content_width none s) s 9 _ refl
    form_placed (some nothing) flags = tt
    form_placed (some one_point) flags = point_placed
    form_placed (some many_points) flags = several_form_placed false (flags many_points refl).parts_is
    form_placed (some parts) flags = several_form_placed true (flags parts refl).parts_is

-- ---- in front of it

module _ (width : ℕ → ℕ) (s : List ℕ) (a : Said Shaped) where
  mismatch_placed : (wanted : Std.Option ℤ) (found : ℤ) → Placed width s a → Placed width s (first (mismatch_tests wanted found) a)
  mismatch_placed Std.None found p = p
  mismatch_placed (Std.Some code) found p = test_placed width s (same_int code found) a _ (elsewhere width s 5 _ refl) (λ e. p)

  wanted_placed : (wanted : Std.Option ℤ) → Placed width s a → Placed width s (first (wanted_tests wanted) a)
  wanted_placed Std.None p = p
  wanted_placed (Std.Some code) p =
      test_placed width s (known code) _ _ (elsewhere width s 4 _ refl)
      (λ i. test_placed width s (is_taken code && not (same_int code (pos 0))) a _ (elsewhere width s 9 _ refl) (λ j. p))

module _ (form : Option Form) (wanted : Std.Option ℤ) (size : Bytes) (s : List ℕ) (a : Said Shaped) where
  abbrev last : List (Bool × Said Shaped)
  last = (is_taken (code_in s), not_taken (code_in s)) ∷ []

  found_placed : (4 ≤ length s → Placed (content_width form s) s a) → Placed (content_width form s) s (first (found_tests wanted size s) a)
  found_placed p =
      let w = content_width form s in
      field_placed w s 4 0 zero-le refl _
      (λ h.
      test_placed w s (known (code_in s)) _ _ (elsewhere w s 4 _ refl)
      (λ i.
      test_placed w s (in_i32 (size.0 -ℤ pos 4)) (first (mismatch_tests wanted (code_in s) ++ last) a) _ (size_placed w s 0 zero-le)
      (λ j.
      rw (first-append (mismatch_tests wanted (code_in s)) last a)
      (mismatch_placed w s (first last a) wanted (code_in s)
      (test_placed w s (is_taken (code_in s)) a _ (elsewhere w s 9 _ refl) (λ k. p h))))))

pub record_placed : (wanted : Std.Option ℤ) (size : Bytes) (s : List ℕ) (counts xs ys zs ms : ℕ) → Placed (content_width (form_at (code_in s)) s) s (record_of wanted size s counts xs ys zs ms)
unfolding record_of
record_placed wanted size s counts xs ys zs ms =
    let form = form_at (code_in s) in
    let a = by_form form (kind_in s) size s counts xs ys zs ms in
    rw (first-append (wanted_tests wanted) (found_tests wanted size s) a)
    (wanted_placed (content_width form s) s (first (found_tests wanted size s) a) wanted
    (found_placed form wanted size s a (λ h. form_placed (kind_in s) size s h counts xs ys zs ms form (code_flags (code_in s)))))
