-- Laws of the judge of state and kind: which test each of its answers is about.
use mathlib.Core.Path.{◌≡◌, refl, sym, ap, ◌∙◌, subst}
use mathlib.Core.Bool.{Bool, true, false, ◌&&◌, ◌||◌, not}
use mathlib.Core.Option.{Option, none, some}
use Prim.Native.Nat.{ℕ, ◌^◌, ◌<◌}
use native.Mathlib.Omega.{arith}
use lib.Dec.{eqb}
use lib.IntN.{ℤ, pos, negsuc}
use lib.Signed.{mag}
use mir.Syntax.{w32}
use mir.Val.{of_z}
use borrow.Author.Tests.{eq-eqb, ne_eqb}
use Rattle.format.specs.declared.kinds.Kind.{Kind}
use Rattle.format.specs.declared.lengths.Formula.{Formula}
use Rattle.format.specs.Kinds.{known, kind_at}
use Rattle.format.specs.Lengths.{Form, nothing, one_point, many_points, parts, form_of, formula, form_at}
use Rattle.format.specs.Shapes.{there}
use Rattle.format.specs.Units.{same_int}
use Rattle.format.proofs.KindLaws.{code_is, known-there}
use Rattle.format.proofs.LengthLaws.{Flags, form_flags, form-several}
use Rattle.writer.specs.declared.State.{State}
use Rattle.std.specs.Prelude.{Result, Ok, Err}
use Rattle.format.specs.declared.lengths.KindError.{KindError}
use Rattle.format.specs.declared.lengths.KindError.TheVariants as KindIs
use Rattle.writer.specs.declared.AddError.TheVariants.{NotTaken, Mismatch}
use Rattle.writer.specs.Adding.{kind_refused}
use Rattle.writer.specs.Judging.{by_form, by_kind, look_up, form_by, OfCode, KindFine, KindRefused}
use Rattle.writer.specs.State.{is_zero, state_fine}
use Rattle.writer.proofs.KindLaws.{is_taken, taken_is, looked_kind}

-- ---- numbers by their bits

pub zero-yes : (z : ℤ) → mag z < 2 ^ 31 → of_z w32 z ≡ 0 → is_zero z ≡ true
zero-yes (pos n) f e = eq-eqb n 0 e
zero-yes (negsuc n) f e = absurd (omega arith)

pub zero_no : (z : ℤ) → (of_z w32 z ≡ 0 → ⊥) → is_zero z ≡ false
zero_no (pos n) e = ne_eqb n 0 e
zero_no (negsuc n) e = refl

-- ---- the kind's form

looked_form : (code : ℤ) (k : Kind) (f : Formula) (o : Option Form) → by_form code k o ≡ Ok (k, f) → (form : Form) × (o ≡ some form) × (f ≡ formula form k.z k.m)
looked_form code k f none e = absurd (let z : ◌≡◌ {A = ℕ} 0 1 = cc in omega arith)
looked_form code k f (some form) e = (form, refl, sym (ap formula_in e))
  where
    formula_in : Result (Kind × Formula) KindError → Formula
    formula_in (Ok p) = p.1
    formula_in (Err x) = f

form-of : (k : Kind) (form : Form) → Flags k form → form ≡ form_by k
form-of k nothing f = rw (form-several k nothing f, f.null_is)
form-of k one_point f = rw (form-several k one_point f, f.null_is)
form-of k many_points f = rw (form-several k many_points f, f.parts_is)
form-of k parts f = rw (form-several k parts f, f.parts_is)

module _ (code : ℤ) where
  module _ (k : Kind) (f : Formula) (e : look_up code ≡ Ok (k, f)) where
    here : kind_at code ≡ some k
    here = looked_kind code (k, f) e

    is_known : known code ≡ true
    is_known = known-there code ∙ ap there here

    is-taken : there (form_at code) ≡ true
    is-taken = taken_is code ∙ ap is_taken e

    is-zero : is_zero code ≡ eqb k.code 0
    is-zero = ap is_zero (code_is code k here)

    formed : (form : Form) × (form_of k ≡ some form) × (f ≡ formula form k.z k.m)
    unfolding look_up
    formed = looked_form code k f (form_of k) (sym (ap (by_kind code) here) ∙ e)

    form-at : form_at code ≡ form_of k
    form-at = rw here

    form_is : formed.0 ≡ form_by k
    form_is = form-of k formed.0 (form_flags code k formed.0 here formed.1)

    of_code : OfCode code k
    of_code = record { kind_is = here; form_is = form-at ∙ (formed.1 ∙ ap some form_is) }

    formula_is : f ≡ formula (form_by k) k.z k.m
    formula_is = formed.2 ∙ ap (λ (x : Form). formula x k.z k.m) form_is

-- ---- the judge's answers

module _ (s : State) (code : ℤ) where
  module _ (fine : state_fine s ≡ true) where
    -- a code that the table does not have, and a kind that is not taken
    pub no_kind : (e : KindError) → look_up code ≡ Err e → KindRefused s code (kind_refused e)
    unfolding look_up
    no_kind e h = go (kind_at code) refl h
      where
        by : (k : Kind) (o : Option Form) → kind_at code ≡ some k → form_of k ≡ o → by_form code k o ≡ Err e → KindRefused s code (kind_refused e)
        by k none g f q =
            let same : KindIs.NotTaken code ≡ e = cc in
            subst (λ (x : KindError). KindRefused s code (kind_refused x)) same (record { says = λ more x. rw (fine, known-there code, g, f) })
        by k (some form) g f q = absurd (let z : ◌≡◌ {A = ℕ} 0 1 = cc in omega arith)

        go : (o : Option Kind) → kind_at code ≡ o → by_kind code o ≡ Err e → KindRefused s code (kind_refused e)
        go none g q =
            let same : KindIs.Unknown code ≡ e = cc in
            subst (λ (x : KindError). KindRefused s code (kind_refused x)) same (record { says = λ more x. rw (fine, known-there code, g) })
        go (some k) g q = by k (form_of k) g refl q

    module _ (k : Kind) (f : Formula) (e : look_up code ≡ Ok (k, f)) where
      pub no_null : k.code ≡ 0 → is_zero s.kind ≡ true → KindRefused s code (NotTaken code)
      no_null h p = record { says = λ more x. rw (fine, is_known code k f e, is-taken code k f e, is-zero code k f e, eq-eqb k.code 0 h, p) }

      pub no_match : (k.code ≡ 0 → ⊥) → is_zero s.kind ≡ false → same_int s.kind code ≡ false → KindRefused s code (Mismatch s.kind code)
      no_match h p q = record { says = λ more x. rw (fine, is_known code k f e, is-taken code k f e, is-zero code k f e, ne_eqb k.code 0 h, p, q) }

      fine_by : (z p q : Bool) → eqb k.code 0 ≡ z → is_zero s.kind ≡ p → same_int s.kind code ≡ q → not (z && p) ≡ true → p || z || q ≡ true → KindFine s code k f
      fine_by z p q u v w i j =
          record {
            fine = fine;
            passes = λ more x. rw (fine, is_known code k f e, is-taken code k f e, is-zero code k f e, u, v, w, i, j);
            of_code = of_code code k f e;
            formula_is = formula_is code k f e;
          }

      -- a kind for a fresh state, Null among the records of a kind, and that kind again
      pub first_fine : (k.code ≡ 0 → ⊥) → is_zero s.kind ≡ true → KindFine s code k f
      first_fine h p = fine_by false true _ (ne_eqb k.code 0 h) p refl refl refl

      pub null-fine : k.code ≡ 0 → is_zero s.kind ≡ false → KindFine s code k f
      null-fine h p = fine_by true false _ (eq-eqb k.code 0 h) p refl refl refl

      pub same_fine : (k.code ≡ 0 → ⊥) → is_zero s.kind ≡ false → same_int s.kind code ≡ true → KindFine s code k f
      same_fine h p q = fine_by false false true (ne_eqb k.code 0 h) p q refl refl
