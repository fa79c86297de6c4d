-- Laws of the walks: what one step of the code finds, where it is refused and where it goes on, for the tests that are left.
use mathlib.Core.Path.{◌≡◌, sym, ap, ◌∙◌}
use mathlib.Core.Bool.{Bool, true}
use mathlib.Core.List.{List, ◌∷◌, ◌++◌, map}
use Prim.Native.Nat.{ℕ, ◌+◌, ◌*◌, ◌-◌, ◌≤◌, ◌<◌}
use native.Mathlib.Nat.{add-zero}
use native.Mathlib.Omega.{arith}
use lib.Dec.{lit<}
use lib.IntN.{ℤ}
use lib.ListN.{length}
use Rattle.std.specs.Prelude.{Ok, Err}
use Rattle.format.specs.declared.shapes.Short.{Short}
use Rattle.format.specs.Numbers.{le_i32}
use Rattle.format.specs.Order.{first, fields_from}
use Rattle.format.specs.Said.{Said, gives, short, wrong_size}
use Rattle.format.specs.Shapes.{sum}
use Rattle.format.proofs.OrderLaws.{first-append}
use Rattle.multipart.specs.declared.Body.{Body}
use Rattle.multipart.specs.declared.CountsError.TheVariants as CountsErrorIs
use Rattle.multipart.specs.Answers.{part_of}
use Rattle.multipart.specs.Body.{part_tests}
use Rattle.multipart.specs.Parts.{is_count, count_of, starts_at}
use Rattle.fields.specs.Checked.{FieldsEnd}
use Rattle.multipart.specs.Walks.{Passes, Refuses, end_of, differences_of, PartsWalk, MeasureWalk}
use Rattle.multipart.proofs.TestLaws.{fields_pass, fields_stop}
use Rattle.multipart.proofs.PartLaws.{is-count, no_count, differences_from, difference_at, one_more, no_more}

-- what is said of the first of `left` parts
abbrev pub said_at : ℕ → ℕ → ℤ → List ℕ → Said ℕ
said_at left start n s = part_of (le_i32 start s) (end_of (starts_at (left - 1) (start + 4) s) n)

-- ---- the next part, of `left` parts whose starts stand from `start` on and whose pairs from `at` on

module _ (left start at : ℕ) (n : ℤ) (s : List ℕ) (h : 0 < left) where
  abbrev d : ℤ
  d = difference_at (left - 1) start n s

  -- what is left of the tests
  abbrev tests : List (Bool × Said Body)
  tests = part_tests start at (differences_from left start n s) s

  -- and of those after this part, if it has k points
  abbrev later : ℕ → List (Bool × Said Body)
  later k = part_tests (start + 4) (at + 16 * k) (differences_from (left - 1) (start + 4) n s) s

  tests_are : tests ≡ (is_count d, wrong_size start) ∷ (fields_from 8 (2 * count_of d) at s short ++ later (count_of d))
  unfolding part_tests
  tests_are = ap (λ (ds : List ℤ). part_tests start at ds s) (one_more left start n s h)

  part_refused : wrong_size 0 ≡ said_at left start n s → Refuses tests (wrong_size start)
  part_refused e a = ap (λ (ts : List (Bool × Said Body)). first ts a) tests_are ∙ rw (no_count _ _ e)

  module _ (k : ℕ) (e : gives k ≡ said_at left start n s) where
    pairs_first : (a : Said Body) → first tests a ≡ first (fields_from 8 (2 * k) at s short) (first (later k) a)
    pairs_first a =
        let c = is-count _ _ k e in
        ap (λ (ts : List (Bool × Said Body)). first ts a) tests_are ∙ rw (c.1, c.0) (first-append (fields_from 8 (2 * k) at s short) (later k) a)

    part_cut : at ≤ length s → (c : Short) → FieldsEnd 8 (2 * k) at (length s) (Err c) → Refuses tests (short c.at c.present)
    part_cut p c q a = pairs_first a ∙ fields_stop 8 (lit< tt) (2 * k) at s (first (later k) a) c p q

    part_on : (end : ℕ) → FieldsEnd 8 (2 * k) at (length s) (Ok end) → (a : Said Body) → first tests a ≡ first (later k) a
    part_on end p a = pairs_first a ∙ fields_pass 8 (lit< tt) (2 * k) at s (first (later k) a) end p

    part_more : sum (map count_of (differences_from left start n s)) ≡ k + sum (map count_of (differences_from (left - 1) (start + 4) n s))
    part_more = rw (one_more left start n s h, (is-count _ _ k e).1)

-- none is left
module _ (left start at : ℕ) (n : ℤ) (s : List ℕ) (h : left ≤ 0) where
  parts_end : Passes (part_tests start at (differences_from left start n s) s)
  unfolding part_tests
  parts_end a = rw (no_more left start n s h)

  parts-sum : (points : ℕ) → points + sum (map count_of (differences_from left start n s)) ≡ points
  parts-sum points = rw (no_more left start n s h, add-zero)

-- ---- the walk over p parts, of which `left` are left, with `points` points before them

pub record Judging (p : ℕ) (n : ℤ) (s : List ℕ) (left start at points : ℕ) : Type 0 where
  pub pairs : at ≡ 40 + 4 * p + 16 * points
  pub inside : at ≤ length s
  pub tests_left : (a : Said Body) → first (part_tests 40 (40 + 4 * p) (differences_of p n s) s) a ≡ first (part_tests start at (differences_from left start n s) s) a
  pub points-left : points + sum (map count_of (differences_from left start n s)) ≡ sum (map count_of (differences_of p n s))

module _ (p : ℕ) (n : ℤ) (s : List ℕ) where
  module _ (left start at points : ℕ) (j : Judging p n s left start at points) where
    pub judging_refused : 0 < left → wrong_size 0 ≡ said_at left start n s → PartsWalk p n s (Err (CountsErrorIs.Size start))
    judging_refused h e a = j.tests_left a ∙ part_refused left start at n s h e a

    pub judging_cut : 0 < left → (k : ℕ) → gives k ≡ said_at left start n s → (c : Short) → FieldsEnd 8 (2 * k) at (length s) (Err c) → PartsWalk p n s (Err (CountsErrorIs.Short c))
    judging_cut h k e c q a = j.tests_left a ∙ part_cut left start at n s h k e j.inside c q a

    pub judging_on : 0 < left → (k : ℕ) → gives k ≡ said_at left start n s → (end : ℕ) → FieldsEnd 8 (2 * k) at (length s) (Ok end) → Judging p n s (left - 1) (start + 4) end (points + k)
    judging_on h k e end q =
        let i : end ≡ at + 16 * k = omega arith in
        record {
          pairs = omega (arith, j.pairs);
          inside = q.1;
          tests_left = λ a. rw i (j.tests_left a ∙ part_on left start at n s h k e end q a);
          points-left = omega (arith, j.points-left, part_more left start at n s h k e);
        }

    pub judging_last : left ≤ 0 → PartsWalk p n s (Ok points)
    judging_last h = (
      (λ a. j.tests_left a ∙ parts_end left start at n s h a),
      (sym (parts-sum left start at n s h points) ∙ j.points-left, omega (arith, j.pairs, j.inside)),
    )

-- ---- a range and n values

module _ (n at : ℕ) (s : List ℕ) where
  pub measure_cut : at ≤ length s → (c : Short) → FieldsEnd 8 (2 + n) at (length s) (Err c) → MeasureWalk true n at s (Err (CountsErrorIs.Short c))
  measure_cut h c q a = fields_stop 8 (lit< tt) (2 + n) at s a c h q

  pub measure_whole : (end : ℕ) → FieldsEnd 8 (2 + n) at (length s) (Ok end) → MeasureWalk true n at s (Ok end)
  measure_whole end q = ((λ a. fields_pass 8 (lit< tt) (2 + n) at s a end q), (omega arith, q.1))
