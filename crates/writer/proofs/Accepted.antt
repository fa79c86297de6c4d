-- An add that was taken passed every test: what follows of its kind, of the shape that was lent, and of the next state.
use mathlib.Core.Path.{◌≡◌, refl, sym, ap, ◌∙◌, subst}
use mathlib.Core.Bool.{Bool, true, false, ◌&&◌, ◌||◌, not}
use mathlib.Core.List.{List, [], ◌∷◌}
use mathlib.Core.Option.{Option, none, some}
use Prim.Native.Nat.{ℕ, ◌+◌, ◌*◌, ◌-◌, ◌^◌, ◌≤◌, ◌<◌}
use native.Mathlib.Omega.{arith}
use lib.Dec.{T, eqb}
use lib.Ieee.{Float}
use lib.IntN.{ℤ, pos, nat_abs}
use lib.ListN.{length, drop}
use borrow.Author.Tests.{ltb-true, not-true, le-leb}
use Rattle.format.specs.declared.kinds.Kind.{Kind}
use Rattle.format.specs.Encoding.{Held}
use Rattle.format.specs.Kinds.{kind_at, kind_or}
use Rattle.format.specs.Lengths.{Form, nothing, one_point, many_points, several_form, form_of, form_in, form_at}
use Rattle.format.specs.Lengths
use Rattle.format.specs.Order.{first}
use Rattle.format.specs.Said.{Said, gives, refuses, wrong_size}
use Rattle.format.specs.Shapes.{Shape, there, OfKind, own_kind, parts_in, points_in}
use Rattle.format.specs.Units.{same_int}
use Rattle.format.proofs.Equations.{parts-null, points-null, parts-point, points-point}
use Rattle.format.proofs.KindLaws.{code_is}
use Rattle.format.proofs.LengthLaws.{Flags, form_flags, form-parts, own-kind}
use Rattle.format.proofs.OrderLaws.{both_true, passed, first_holds}
use Rattle.format.proofs.Records.{shape-least, points-least}
use Rattle.format.proofs.UnitLaws.{same_is}
use Rattle.layouts.specs.Answers.{counts_held}
use Rattle.layouts.specs.Steps.{Agreed}
use Rattle.layouts.specs.Tables.{points_lent}
use Rattle.layouts.proofs.TableLaws.{agreed, parts-in, points-in, several_of_kind}
use Rattle.writer.specs.declared.State.{State}
use Rattle.std.specs.Prelude.{Result, Ok, Err, IsErr}
use Rattle.writer.specs.declared.AddError.{AddError}
use Rattle.writer.specs.declared.AddError.TheVariants.{Size}
use Rattle.writer.specs.declared.Headers.{Headers}
use Rattle.writer.specs.declared.NoState.{NoState}
use Rattle.writer.specs.Adding.{Lent, said_add, form_or, lent_kind, lent_form, point_shape, lent_shape, lent_agree, words_then, points_then, record_size, add_tests, kind_then, next_state, adding_of}
use Rattle.writer.specs.Finishing.{headers_of, Finishes}
use Rattle.writer.specs.State.{is_zero, state_fine}
use Rattle.writer.proofs.ShapeLaws.{lent_nothing, lent-point, lent-several, several-agree, there-value}
use Rattle.writer.proofs.StateLaws.{Fine, fine}

pub record Accepted (s : State) (t : Lent) : Type 0 where
  pub fine : Fine s
  pub kind : kind_at t.code ≡ some (lent_kind t)
  pub form : form_of (lent_kind t) ≡ some (lent_form t)
  pub not_first : is_zero t.code && is_zero s.kind ≡ false
  pub same_kind : is_zero s.kind || is_zero t.code || same_int s.kind t.code ≡ true
  pub agree : lent_agree t ≡ true
  pub counts-held : counts_held (lent_kind t).parts t.counts t.xs ≡ true
  pub held : words_then s t < 2 ^ 31

-- a kind that has a form is in the table
form-there : (o : Option Form) → there o ≡ true → o ≡ some (form_or o)
form-there none e = absurd (let z : ◌≡◌ {A = ℕ} 0 1 = cc in omega arith)
form-there (some form) e = refl

pub kind-there : (o : Option Kind) → there (form_in o) ≡ true → (o ≡ some (kind_or o)) × (form_of (kind_or o) ≡ some (form_or (form_in o)))
kind-there none e = absurd (let z : ◌≡◌ {A = ℕ} 0 1 = cc in omega arith)
kind-there (some k) e = (refl, form-there (form_of k) e)

pub adding-is : (s : State) (t : Lent) (out start entry : ℕ) → adding_of s t out start entry ≡ first (add_tests s t out start entry) (gives (record_size t))
unfolding adding_of
adding-is s t out start entry = refl

-- a writer state is not refused with 3: all other refusals of adding have another number
abbrev NotSize : Said ℕ → Type 0
NotSize (gives n) = Unit {0}
NotSize (refuses n vs) = n ≡ 3 → ⊥

pub never_size : (s : State) (t : Lent) (out start entry : ℕ) (a : Result ℕ AddError) → state_fine s ≡ true → said_add a ≡ adding_of s t out start entry → a ≡ Err Size → ⊥
unfolding adding_of
never_size s t out start entry a f e size =
    let said : NotSize (adding_of s t out start entry) = rw f (first_holds NotSize (drop 1 (add_tests s t out start entry)) (gives (record_size t)) (omega arith) tt) in
    subst NotSize (sym e ∙ ap said_add size) said refl

-- nor is its finishing
pub finished-is : (s : State) (r : Result Headers NoState) → state_fine s ≡ true → Finishes s r → r ≡ Ok (headers_of s)
finished-is s (Ok h) f e = let same : gives h ≡ gives (headers_of s) = e.says ∙ rw f in cc
finished-is s (Err x) f e = let same : wrong_size 0 ≡ gives (headers_of s) = e.says ∙ rw f in absurd (let z : ◌≡◌ {A = ℕ} 0 1 = cc in omega arith)

pub never_finishing : (s : State) (r : Result Headers NoState) → state_fine s ≡ true → Finishes s r → IsErr r → ⊥
never_finishing s r f e h = let same = rw (finished-is s r f e) at h in absurd (let z : ◌≡◌ {A = ℕ} 0 1 = cc in omega arith)

pub accepted : (s : State) (t : Lent) (out start entry n : ℕ) → adding_of s t out start entry ≡ gives n → Accepted s t
unfolding adding_of
accepted s t out start entry n e =
    let ok = passed (record_size t) n (add_tests s t out start entry) tt e in
    let taken = both_true (there (form_at t.code)) (not (is_zero t.code && is_zero s.kind)) (ok 2) in
    let found = kind-there (kind_at t.code) taken.0 in
    let held = both_true _ _ (ok 5) in
    record {
      fine = fine s (ok 0);
      kind = found.0;
      form = found.1;
      not_first = not-true _ taken.1;
      same_kind = ok 3;
      agree = ok 4;
      counts-held = held.0;
      held = ltb-true _ _ held.1;
    }

-- ---- the shape that was lent: it is of its kind, and i32 fields hold its counts

pub record Fits (k : Kind) (s : Shape) : Type 0 where
  pub of_kind : OfKind k s
  pub parts_held : Held (parts_in s)
  pub points_held : Held (points_in s)

point-fits : (k : Kind) (xs ys zs ms : List Float) → form_of k ≡ some one_point → Agreed k.z k.m 1 xs ys zs ms → Fits k (point_shape k xs ys zs ms)
point-fits k [] ys zs ms f a = absurd (omega (arith, a.xs_has))
point-fits k (x ∷ xs) [] zs ms f a = absurd (omega (arith, a.ys_has))
point-fits k (x ∷ xs) (y ∷ ys) zs ms f a =
    record {
      of_kind = record { form = f; has_z = there-value k.z zs a.zs_has; has-m = there-value k.m ms a.ms_has };
      parts_held = rw parts-point (omega arith);
      points_held = rw points-point (omega arith);
    }

module _ (s : State) (t : Lent) (a : Accepted s t) where
  pub code : t.code ≡ pos (lent_kind t).code
  code = code_is t.code (lent_kind t) a.kind

  -- the tables agree on their points, by the form
  pub point-tables : lent_form t ≡ one_point → Agreed (lent_kind t).z (lent_kind t).m 1 t.xs t.ys t.zs t.ms
  point-tables e = (agreed (eqb (length t.counts) 0) (lent_kind t).z (lent_kind t).m 1 t.xs t.ys t.zs t.ms (rw e at a.agree)).1

  -- of several points too; a multipoint has no part counts
  pub several-tables : (parts : Bool) → lent_form t ≡ several_form parts
      → ((parts || eqb (length t.counts) 0) ≡ true) × Agreed (lent_kind t).z (lent_kind t).m (points_lent parts t.counts t.xs) t.xs t.ys t.zs t.ms
  several-tables parts e =
      agreed (parts || eqb (length t.counts) 0) (lent_kind t).z (lent_kind t).m (points_lent parts t.counts t.xs) t.xs t.ys t.zs t.ms
      (sym (several-agree t parts e) ∙ a.agree)

  flags : Flags (lent_kind t) (lent_form t)
  flags = form_flags t.code (lent_kind t) (lent_form t) a.kind a.form

  pub several-parts : (parts : Bool) → lent_form t ≡ several_form parts → (lent_kind t).parts ≡ parts
  several-parts parts e = form-parts (lent_kind t) parts (subst (Flags (lent_kind t)) e flags)

  several-fits : (parts : Bool) → lent_form t ≡ several_form parts → Fits (lent_kind t) (lent_shape t)
  several-fits parts e =
      let k = lent_kind t in
      let u = several-tables parts e in
      let held = both_true _ _ (subst (λ (p : Bool). counts_held p t.counts t.xs ≡ true) (several-parts parts e) a.counts-held) in
      subst (Fits k) (sym (lent-several t parts e))
      (record {
        of_kind = several_of_kind k t.box t.counts t.xs t.ys t.zs t.ms parts (a.form ∙ ap some e) u.1;
        parts_held = subst Held (sym (parts-in k.z k.m t.box t.counts t.xs t.ys t.zs t.ms parts u.0)) (ltb-true _ _ held.0);
        points_held = subst Held (sym (points-in k.z k.m t.box t.counts t.xs t.ys t.zs t.ms parts u.1)) (ltb-true _ _ held.1);
      })

  pub shape-fits : Fits (lent_kind t) (lent_shape t)
  shape-fits = go (lent_form t) refl
    where
      go : (form : Form) → lent_form t ≡ form → Fits (lent_kind t) (lent_shape t)
      go nothing e =
          rw (lent_nothing t e) (record { of_kind = rw e at a.form; parts_held = rw parts-null (omega arith); points_held = rw points-null (omega arith) })
      go one_point e = rw (lent-point t e) (point-fits (lent_kind t) t.xs t.ys t.zs t.ms (rw e at a.form) (point-tables e))
      go many_points e = several-fits false e
      go Lengths.parts e = several-fits true e

  -- ---- the next state: its kind is the one that is added, or the one before a Null, and it is a writer state again

  is-zero : is_zero t.code ≡ eqb (lent_kind t).code 0
  is-zero = ap is_zero code

  -- what holds of the kind before a Null, and of another that is added, holds of the next
  kind_next : (P : ℤ → Type 0) → (is_zero t.code ≡ true → P s.kind) → (is_zero t.code ≡ false → P t.code) → P (next_state s t).kind
  unfolding next_state
  kind_next P stays own = go (lent_form t) flags
    where
      go : (form : Form) → Flags (lent_kind t) form → P (kind_then form s t)
      go nothing f = stays (is-zero ∙ f.null_is)
      go one_point f = own (is-zero ∙ f.null_is)
      go many_points f = own (is-zero ∙ f.null_is)
      go Lengths.parts f = own (is-zero ∙ f.null_is)

  next_taken : there (form_at (next_state s t).kind) ≡ true
  next_taken = kind_next (λ (z : ℤ). there (form_at z) ≡ true) (λ e. a.fine.kind-taken) (λ e. rw (a.kind, a.form))

  next_set : is_zero (next_state s t).kind ≡ false
  next_set = kind_next (λ (z : ℤ). is_zero z ≡ false) (λ e. rw e at a.not_first) (λ e. e)

  pub kind-named : kind_at (next_state s t).kind ≡ some (kind_or (kind_at (next_state s t).kind))
  kind-named = (kind-there (kind_at (next_state s t).kind) next_taken).0

  -- behind another record the state has its kind
  pub kind_stays : (nat_abs s.number ≡ 1 → ⊥) → (next_state s t).kind ≡ s.kind
  kind_stays h = kind_next (λ (z : ℤ). z ≡ s.kind) (λ e. refl) (λ e. sym (go (is_zero s.kind) refl (rw e at a.same_kind)))
    where
      go : (b : Bool) → is_zero s.kind ≡ b → b || false || same_int s.kind t.code ≡ true → s.kind ≡ t.code
      go true e p = absurd (h (a.fine.at_start e))
      go false e p = same_is s.kind t.code p

  -- and behind none it is the one that is added
  pub kind-first : is_zero s.kind ≡ true → (next_state s t).kind ≡ t.code
  kind-first h = kind_next (λ (z : ℤ). z ≡ t.code) (λ e. absurd (subst T (rw (e, h) at a.not_first) tt)) (λ e. refl)

  -- the record's kind is the shape's own in a file of the next state's
  pub own_next : own_kind (kind_or (kind_at (next_state s t).kind)) (lent_shape t) ≡ lent_kind t
  own_next =
      own-kind t.code (lent_kind t) (kind_or (kind_at (next_state s t).kind)) (lent_shape t) a.kind shape-fits.of_kind
      (λ h. kind_next (λ (z : ℤ). kind_or (kind_at z) ≡ lent_kind t) (λ e. absurd (subst T (sym e ∙ (is-zero ∙ h)) tt)) (λ e. refl))

  pub next_room : 50 + 6 * nat_abs s.number ≤ words_then s t
  next_room = omega (arith, a.fine.room, a.fine.number-least, shape-least (lent_shape t))

  -- a record has a word for each of its points
  pub points-room : points_then s t ≤ words_then s t
  points-room = omega (arith, a.fine.points-room, points-least (lent_shape t))

  pub next_fine : state_fine (next_state s t) ≡ true
  unfolding state_fine next_state
  next_fine =
      let n = nat_abs s.number in
      let least : 50 ≤ words_then s t = omega (arith, next_room) in
      let room : 50 + 6 * (n + 1 - 1) ≤ words_then s t = omega (arith, next_room) in
      rw (le-leb 50 (words_then s t) least, le-leb 1 (n + 1) (omega arith), next_taken, le-leb (50 + 6 * (n + 1 - 1)) (words_then s t) room, le-leb (points_then s t) (words_then s t) points-room, next_set)
