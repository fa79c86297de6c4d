-- Laws of the counts of a body, as the code's tests meet them: past test k, what is left of the tests has the answer.
use mathlib.Core.Path.{◌≡◌, refl, sym, ap, ◌∙◌, subst}
use mathlib.Core.Bool.{Bool, true, false}
use mathlib.Core.List.{List}
use Prim.Native.Nat.{ℕ, ◌+◌, ◌^◌, ◌≤◌, ◌<◌}
use native.Mathlib.Omega.{arith}
use lib.Dec.{T, lit<}
use lib.IntN.{ℤ, pos, negsuc, nat_abs}
use lib.ListN.{length, drop}
use lib.Signed.{non_neg}
use mir.Syntax.{w32}
use borrow.Author.Gap.{read_sfits}
use borrow.Author.Tests.{le-leb, leb-true}
use Rattle.format.specs.Bytes.{le, field}
use Rattle.std.specs.Prelude.{Err}
use Rattle.format.specs.declared.shapes.Short.{Short}
use Rattle.fields.specs.Checked.{Reads}
use Rattle.format.specs.Numbers.{le_i32}
use Rattle.format.specs.Order.{whole, first, fields_from}
use Rattle.format.specs.Said.{Said, gives, short, wrong_size}
use Rattle.format.proofs.OrderLaws.{rest, ok_at, fields_whole, refusing, passed, given, first-append}
use Rattle.multipart.specs.declared.Body.{Body}
use Rattle.multipart.specs.declared.Counts.{Counts}
use Rattle.multipart.specs.declared.CountsError.{CountsError}
use Rattle.multipart.specs.declared.CountsError.TheVariants as CountsErrorIs
use Rattle.multipart.specs.Answers.{refusal, counts_of}
use Rattle.multipart.specs.Body.{parts_in, number_at, count_tests}
use Rattle.fields.specs.Checked.{FieldsEnd}
use Rattle.multipart.specs.Walks.{Refuses, Counted}
use Rattle.multipart.proofs.TestLaws.{carry, first_carry, fields_stop}

module _ (parts : Bool) (s : List ℕ) where
  abbrev found : Counts
  found = record { parts = parts_in parts s; points = nat_abs (le_i32 (number_at parts) s) }

  abbrev counts : Said Counts
  counts = gives found

  -- what the tests from test k on say
  abbrev left : ℕ → Said Counts
  left k = rest k (count_tests parts s) counts

  -- the box: four doubles in front
  box-first : counts_of parts s ≡ first (fields_from 8 4 0 s short) (left 4)
  unfolding counts_of
  box-first = first-append (fields_from 8 4 0 s short) (drop 4 (count_tests parts s)) counts

  pub box_cut : (e : Short) → FieldsEnd 8 4 0 (length s) (Err e) → short e.at e.present ≡ counts_of parts s
  box_cut e h = sym (box-first ∙ fields_stop 8 (lit< tt) 4 0 s (left 4) e (omega arith) h)

  module _ (box : 32 ≤ length s) where
    box-whole : counts_of parts s ≡ left 4
    box-whole = box-first ∙ fields_whole 8 (lit< tt) 4 0 s short (left 4) box

    pub first_cut : (e : Short) → Reads 4 32 s (le_i32 32 s) (Err e) → short e.at e.present ≡ counts_of parts s
    first_cut e h = sym (box-whole ∙ rw (h.0, h.1))

    first-whole : whole 4 32 s ≡ true → counts_of parts s ≡ left 5
    first-whole h = box-whole ∙ rw h

-- behind the box and the first number

module _ (s : List ℕ) (box : 32 ≤ length s) (first-there : whole 4 32 s ≡ true) where
  -- a multipoint has no other
  pub points_refused : non_neg (le_i32 32 s) ≡ false → wrong_size 32 ≡ counts_of false s
  points_refused e = sym (first-whole false s box first-there ∙ rw e)

  pub points_held : (n : ℕ) → le_i32 32 s ≡ pos n → gives (record { parts = 0; points = n }) ≡ counts_of false s
  points_held n e = sym (first-whole false s box first-there ∙ rw e)

  -- parts have a second
  pub second_cut : (e : Short) → Reads 4 36 s (le_i32 36 s) (Err e) → short e.at e.present ≡ counts_of true s
  second_cut e h = sym (first-whole true s box first-there ∙ rw (h.0, h.1))

  module _ (second-there : whole 4 36 s ≡ true) where
    second-whole : counts_of true s ≡ left true s 6
    second-whole = first-whole true s box first-there ∙ rw second-there

    pub parts_refused : non_neg (le_i32 32 s) ≡ false → wrong_size 32 ≡ counts_of true s
    parts_refused e = sym (second-whole ∙ rw e)

    pub number_refused : (p : ℕ) → le_i32 32 s ≡ pos p → non_neg (le_i32 36 s) ≡ false → wrong_size 36 ≡ counts_of true s
    number_refused p e f = sym (second-whole ∙ rw (e, f))

    pub both_held : (p n : ℕ) → le_i32 32 s ≡ pos p → le_i32 36 s ≡ pos n → gives (record { parts = p; points = n }) ≡ counts_of true s
    both_held p n e f = sym (second-whole ∙ rw (e, f))

-- ---- the same tests in front of a body

refusals : (parts : Bool) (s : List ℕ) → T (refusing (count_tests {A = Counts} parts s))
refusals true s = tt
refusals false s = tt

-- with all of them passed, the number of points is there and not negative
number-there : (parts : Bool) (s : List ℕ) → ((k : ℕ) → ok_at k (count_tests {A = Counts} parts s) ≡ true) → (number_at parts + 4 ≤ length s) × (non_neg (le_i32 (number_at parts) s) ≡ true)
number-there true s ok = (leb-true 40 (length s) (ok 5), ok 7)
number-there false s ok = (leb-true 36 (length s) (ok 4), ok 5)

not_negative : (z : ℤ) → non_neg z ≡ true → z ≡ pos (nat_abs z)
not_negative (pos n) e = refl
not_negative (negsuc n) e = absurd (subst T (sym e) tt)

before_body : (parts : Bool) (s : List ℕ) (a : Said Body) → first (count_tests parts s) a ≡ carry (λ t. a) (counts_of parts s)
unfolding counts_of
before_body true s a = first_carry (λ t. a) (count_tests true s) (counts true s)
before_body false s a = first_carry (λ t. a) (count_tests false s) (counts false s)

module _ (parts : Bool) (s : List ℕ) where
  pub counts_stop : (e : CountsError) → refusal e ≡ counts_of parts s → Refuses (count_tests parts s) (refusal e)
  counts_stop (CountsErrorIs.Short c) e a = before_body parts s a ∙ ap (carry (λ t. a)) (sym e)
  counts_stop (CountsErrorIs.Size at) e a = before_body parts s a ∙ ap (carry (λ t. a)) (sym e)

  pub counted : (c : Counts) → gives c ≡ counts_of parts s → Counted parts s c
  unfolding counts_of
  counted c e =
      let there = number-there parts s (passed (found parts s) c (count_tests parts s) (refusals parts s) (sym e)) in
      let is = given (found parts s) c (count_tests parts s) (refusals parts s) (sym e) in
      record {
        long = there.0;
        parts_are = ap (λ (t : Counts). t.parts) (sym is);
        number_is = not_negative _ there.1 ∙ ap (λ (t : Counts). pos t.points) is;
        passes = λ a. before_body parts s a ∙ ap (carry (λ t. a)) (sym e);
      }

-- the number of points is one of an i32
pub number_small : (at : ℕ) (s : List ℕ) (n : ℕ) → le_i32 at s ≡ pos n → n < 2 ^ 31
unfolding le_i32
number_small at s n e = rw e at (read_sfits w32 (le (field 4 at s))).sfits

-- ---- p parts and n points

-- behind the box
numbers_pass : {A : Type 0} (parts : Bool) (s : List ℕ) → number_at parts + 4 ≤ length s → non_neg (le_i32 32 s) ≡ true → non_neg (le_i32 (number_at parts) s) ≡ true → (a : Said A) → first (drop 4 (count_tests parts s)) a ≡ a
numbers_pass true s h p n a = rw (le-leb 36 (length s) (omega arith), le-leb 40 (length s) h, p, n)
numbers_pass false s h p n a = rw (le-leb 36 (length s) h, n)

pub number_from : (parts : Bool) → 32 ≤ number_at parts
number_from true = omega arith
number_from false = omega arith

module _ (parts : Bool) (s : List ℕ) (p n : ℕ) (h : number_at parts + 4 ≤ length s) (front-held : non_neg (le_i32 32 s) ≡ true) (parts_are : p ≡ parts_in parts s) (number_is : le_i32 (number_at parts) s ≡ pos n) where
  pub counts_pass : {A : Type 0} (a : Said A) → first (count_tests parts s) a ≡ a
  counts_pass a =
      first-append (fields_from 8 4 0 s short) (drop 4 (count_tests parts s)) a
      ∙ (fields_whole 8 (lit< tt) 4 0 s short (first (drop 4 (count_tests parts s)) a) (omega (arith, number_from parts))
      ∙ numbers_pass parts s h front-held (ap non_neg number_is) a)

  pub counts-said : counts_of parts s ≡ gives (record { parts = p; points = n })
  unfolding counts_of
  counts-said = counts_pass (counts parts s) ∙ rw (← parts_are, number_is)
