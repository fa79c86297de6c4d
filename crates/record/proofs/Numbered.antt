-- The refusals of reading a record have document 01's numbers.
use mathlib.Core.Bool.{◌||◌}
use mathlib.Core.List.{List, ◌∷◌}
use mathlib.Core.Option.{Option, none, some}
use Prim.Native.Nat.{ℕ}
use native.Mathlib.Omega.{arith}
use lib.Dec.{eqb}
use lib.IntN.{ℤ}
use lib.ListN.{drop}
use Rattle.format.specs.declared.kinds.Kind.{Kind}
use Rattle.format.specs.declared.units.Bytes.{Bytes}
use Rattle.format.specs.Lengths.{Form, nothing, one_point, many_points, parts, content_words, form_at}
use Rattle.format.specs.Order.{fields_from}
use Rattle.format.specs.Said.{Said, gives, refuses, short, wrong_size, Numbered}
use Rattle.format.proofs.OrderLaws.{AllNumbered, cond_numbered, first_numbered, fields_numbered}
use Rattle.multipart.specs.Answers.{counts_of}
use Rattle.multipart.specs.Body.{body_of}
use Rattle.multipart.proofs.Numbered.{counts_numbered, body_numbered}
use Rattle.std.specs.Prelude as Std
use Rattle.record.specs.Reading.{Shaped, code_in, kind_in, front_tests, is_words, doubles_of, point_of, moved, and_then, has_m, size_right, several_of, by_form, record_of}

front_numbered : (wanted : Std.Option ℤ) (size : Bytes) (s : List ℕ) → AllNumbered (front_tests {A = Shaped} wanted size s)
front_numbered Std.None size s = omega arith
front_numbered (Std.Some code) size s = omega arith

-- a refusal whose offset is moved keeps its number
moved_numbered : {A : Type 0} (said : Said A) → Numbered said → Numbered (moved said)
moved_numbered (gives a) p = tt
moved_numbered (refuses n values) p = cond_numbered (eqb n 1 || eqb n 3) _ _ p p

then_numbered : {A B : Type 0} (said : Said A) (f : A → Said B) → Numbered said → ((a : A) → Numbered (f a)) → Numbered (and_then said f)
then_numbered (gives a) f p q = q a
then_numbered (refuses n values) f p q = p

module _ (k : Kind) (size : Bytes) (s : List ℕ) where
  point_numbered : Numbered (point_of k size s)
  unfolding point_of
  point_numbered =
      first_numbered ((is_words size (content_words one_point k.z k.m 0 1), wrong_size 0) ∷ fields_from 8 (doubles_of k) 4 s short) (gives _)
      (omega arith, fields_numbered Shaped 8 (doubles_of k) 4 s) tt

  module _ (counts xs ys zs ms : ℕ) where
    several_numbered : Numbered (several_of k size s counts xs ys zs ms)
    unfolding several_of
    several_numbered =
        let b = drop 4 s in
        then_numbered (moved (counts_of k.parts b)) _ (moved_numbered (counts_of k.parts b) (counts_numbered k.parts b))
        (λ two.
        let body = body_of k.parts k.z (has_m k size two) b counts xs ys zs ms in
        cond_numbered (size_right k size two) _ (wrong_size 0)
        (then_numbered (moved body) _ (moved_numbered body (body_numbered k.parts k.z (has_m k size two) b counts xs ys zs ms)) (λ read. tt))
        (omega arith))

    form_numbered : (form : Option Form) → Numbered (by_form form k size s counts xs ys zs ms)
    form_numbered none = omega arith
    form_numbered (some nothing) = tt
    form_numbered (some one_point) = point_numbered
    form_numbered (some many_points) = several_numbered
    form_numbered (some parts) = several_numbered

pub record_numbered : (wanted : Std.Option ℤ) (size : Bytes) (s : List ℕ) (counts xs ys zs ms : ℕ) → Numbered (record_of wanted size s counts xs ys zs ms)
unfolding record_of
record_numbered wanted size s counts xs ys zs ms =
    first_numbered (front_tests wanted size s) _ (front_numbered wanted size s) (form_numbered (kind_in s) size s counts xs ys zs ms (form_at (code_in s)))
