-- Laws of the front: what the lookups of a code say of its tests, and one lemma for each place of the order.
use mathlib.Core.Path.{◌≡◌, sym, ap, ◌∙◌}
use mathlib.Core.Bool.{Bool, true, false, cond}
use mathlib.Core.List.{List, [], ◌∷◌}
use mathlib.Core.Option.{some}
use Prim.Native.Nat.{ℕ}
use native.Mathlib.Omega.{arith}
use lib.IntN.{ℤ, pos, ◌-ℤ◌}
use lib.ListN.{length}
use Rattle.std.specs.Prelude.{Option, Some, Result, Ok, Err}
use Rattle.format.specs.declared.kinds.Kind.{Kind}
use Rattle.format.specs.declared.kinds.UnknownKind.{UnknownKind}
use Rattle.format.specs.declared.lengths.KindError.{KindError}
use Rattle.format.specs.declared.lengths.Lengths.{Lengths}
use Rattle.format.specs.declared.shapes.Short.{Short}
use Rattle.format.specs.declared.units.Bytes.{Bytes}
use Rattle.format.specs.Bytes.{field}
use Rattle.format.specs.Kinds.{known, kind_at, said_found, kind_of}
use Rattle.format.specs.Lengths.{form_of, lengths_of, said_content, content_of}
use Rattle.format.specs.Order.{first, whole}
use Rattle.format.specs.Said.{Said, gives, unknown, not_taken}
use Rattle.format.specs.Shapes.{there}
use Rattle.format.specs.Units.{same_int, in_i32}
use Rattle.format.proofs.KindLaws.{known-there, known_some, known_found, named_code}
use Rattle.format.proofs.LengthLaws.{lengths_form, content_by, content_none_at, content-none, content_some, content-known, told-unknown, told-kind}
use Rattle.format.proofs.OrderLaws.{first-append}
use Rattle.record.specs.declared.RecordError.{RecordError}
use Rattle.record.specs.declared.RecordError.TheVariants as Error
use Rattle.record.specs.Reading.{Shaped, code_in, is_taken, wanted_tests, mismatch_tests, found_tests, front_tests}
use Rattle.record.specs.Steps.{Passes, Refuses, Judges, of_kind, Held}

-- ---- the lookups

-- of a code whose kind was found
module _ (z : ℤ) (k : Kind) (e : kind_at z ≡ some k) (c : Result Lengths KindError) (f : said_content c ≡ content_of z) where
  taken_is : (b : Bool) → there (form_of k) ≡ b → is_taken z ≡ b
  taken_is b g = rw e g

  taken_no : (code : ℤ) → c ≡ Err (KindError.NotTaken code) → (is_taken z ≡ false) × (code ≡ z)
  taken_no code g = (taken_is false (ap there (content-none k z e c f code g)), named _ _ (ap said_content (sym g) ∙ (f ∙ content_by z k e)))
    where
      named : (b : Bool) (l : Lengths) → not_taken code ≡ cond b (not_taken z) (gives l) → code ≡ z
      named true l q = cc
      named false l q = absurd (let n : ◌≡◌ {A = ℕ} 0 1 = cc in omega arith)

  pub taken_yes : (l : Lengths) → c ≡ Ok l → (is_taken z ≡ true) × (lengths_of k ≡ some l)
  taken_yes l g =
      let r = content_some k z e c f l g in
      (taken_is true (ap there (lengths_form k l r).1), r)

-- of a code whose kind is not looked up apart: whether it is known, and taken
module _ (z : ℤ) (c : Result Lengths KindError) (f : said_content c ≡ content_of z) where
  told_none : (code : ℤ) → c ≡ Err (KindError.Unknown code) → (known z ≡ false) × (code ≡ z)
  told_none code g =
      let n = told-unknown z c f code g in
      let q : unknown {A = Lengths} code ≡ unknown z = ap said_content (sym g) ∙ (f ∙ sym (content_none_at z n)) in
      (known-there z ∙ ap there n, cc)

  told-taken : (l : Lengths) → c ≡ Ok l → (known z ≡ true) × (is_taken z ≡ true)
  told-taken l g =
      let k = told-kind z c f (λ q. let n : ◌≡◌ {A = ℕ} 0 1 = cc in omega arith) in
      (known_some z k.0 k.1, (taken_yes z k.0 k.1 c f l g).0)

  -- ---- the wanted kind

  pub wanted_unlisted : (e : KindError) → c ≡ Err e → Refuses (wanted_tests (Some z)) (of_kind e)
  wanted_unlisted (KindError.Unknown code) g = let t = told_none code g in λ a. rw (t.1, t.0)
  wanted_unlisted (KindError.NotTaken code) g =
      let k = told-kind z c f (λ q. let n : ◌≡◌ {A = ℕ} 9 4 = cc in omega arith) in
      let t = taken_no z k.0 k.1 c f code g in
      λ a. rw (t.1, known_some z k.0 k.1, t.0)

  module _ (l : Lengths) (g : c ≡ Ok l) where
    pub wanted_null : same_int z (pos 0) ≡ true → Refuses (wanted_tests (Some z)) (Error.NotTaken z)
    wanted_null e = let t = told-taken l g in λ a. rw (t.0, t.1, e)

    pub wanted_well : same_int z (pos 0) ≡ false → Passes (wanted_tests (Some z))
    wanted_well e = let t = told-taken l g in λ a. rw (t.0, t.1, e)

-- ---- what follows the wanted kind

module _ (wanted : Option ℤ) (size : Bytes) (s : List ℕ) where
  abbrev tests : List (Bool × Said Shaped)
  tests = found_tests wanted size s

  pub cut : whole 4 0 s ≡ false → (e : Short) → e ≡ record { at = 0; present = length (field 4 0 s) } → Refuses tests (Error.Short e)
  cut h e g a = rw (g, h)

  module _ (h : whole 4 0 s ≡ true) (z : ℤ) (i : z ≡ code_in s) where
    pub found_unknown : (r : Result Kind UnknownKind) → said_found r ≡ kind_of z → (e : UnknownKind) → r ≡ Err e → Refuses tests (Error.Unknown e.0)
    found_unknown r f e g a =
        let k : known (code_in s) ≡ false = rw (← i) (known_found z r f (Err e) g) in
        let n : e.0 ≡ code_in s = named_code z r f e g ∙ i in
        rw (h, k, n)

    module _ (kind : Kind) (at : kind_at z ≡ some kind) where
      here : kind_at (code_in s) ≡ some kind
      here = rw (← i) at

      pub size-left : in_i32 (size.0 -ℤ pos 4) ≡ false → Refuses tests (Error.Size 0)
      size-left e a = rw (h, known_some (code_in s) kind here, e)

      module _ (f : Held size) where
        last : List (Bool × Said Shaped)
        last = (is_taken (code_in s), not_taken (code_in s)) ∷ []

        two-left : (a : Said Shaped) → first tests a ≡ first (mismatch_tests wanted (code_in s)) (first last a)
        unfolding last
        two-left a = rw (h, known_some (code_in s) kind here, f) (first-append (mismatch_tests wanted (code_in s)) last a)

        pub found_other : (e : RecordError) → Refuses (mismatch_tests wanted z) e → Refuses tests e
        found_other e q a = (rw i at q) (first last a) ∙ sym (two-left a)

        module _ (p : Passes (mismatch_tests wanted z)) (c : Result Lengths KindError) (g : said_content c ≡ content_of z) where
          pub found_not : (e : KindError) → c ≡ Err e → Refuses tests (of_kind e)
          unfolding last
          found_not (KindError.Unknown code) k = absurd (content-known kind z at c g code k)
          found_not (KindError.NotTaken code) k =
              let t = taken_no z kind at c g code k in
              let n : is_taken (code_in s) ≡ false = rw (← i) t.0 in
              λ a. rw (t.1, i) (sym (two-left a ∙ ((rw i at p) (first last a) ∙ rw n)))

          pub found_well : (l : Lengths) → c ≡ Ok l → Passes tests
          unfolding last
          found_well l k =
              let n : is_taken (code_in s) ≡ true = rw (← i) (taken_yes z kind at c g l k).0 in
              λ a. two-left a ∙ ((rw i at p) (first last a) ∙ rw n)

-- ---- both

module _ (wanted : Option ℤ) (size : Bytes) (s : List ℕ) where
  both_parts : (a : Said Shaped) → first (front_tests wanted size s) a ≡ first (wanted_tests wanted) (first (found_tests wanted size s) a)
  both_parts a = first-append (wanted_tests wanted) (found_tests wanted size s) a

  pub front-refused : (e : RecordError) → Refuses (wanted_tests wanted) e → Refuses (front_tests wanted size s) e
  front-refused e q a = q (first (found_tests wanted size s) a) ∙ sym (both_parts a)

  pub front_on : {A : Type 0} → Passes (wanted_tests wanted) → (r : Result A RecordError) → Judges (found_tests wanted size s) r → Judges (front_tests wanted size s) r
  front_on p (Ok content) h = λ a. both_parts a ∙ (p (first (found_tests wanted size s) a) ∙ h a)
  front_on p (Err e) h = λ a. h a ∙ sym (both_parts a ∙ p (first (found_tests wanted size s) a))
