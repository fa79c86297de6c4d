-- The plan of a kind, by what the lookups answer: they find the kind that the rules take, or none.
use mathlib.Core.Path.{◌≡◌, refl, sym, ap, ap₂, ◌∙◌}
use mathlib.Core.Bool.{Bool, true, false, cond, ◌||◌}
use mathlib.Core.List.{List}
use mathlib.Core.Option.{Option, none, some}
use Prim.Native.Nat.{ℕ}
use native.Mathlib.Omega.{arith}
use lib.Dec.{eqb}
use lib.IntN.{ℤ, pos}
use Rattle.std.specs.Prelude as Std
use Rattle.std.specs.Prelude.{Result, Ok, Err}
use Rattle.std.specs.Result.{result_ok}
use Rattle.format.specs.declared.kinds.Kind.{Kind}
use Rattle.format.specs.declared.kinds.UnknownKind.{UnknownKind}
use Rattle.format.specs.declared.lengths.KindError.{KindError}
use Rattle.format.specs.declared.lengths.KindError.TheVariants.{Unknown, NotTaken}
use Rattle.format.specs.declared.lengths.Lengths.{Lengths}
use Rattle.format.specs.Kinds.{null_kind, said_found, kind_of, kind_at}
use Rattle.format.specs.Lengths.{Form, nothing, one_point, many_points, parts, has_several, form_of, several, front_words, lengths_of, said_content, content_of}
use Rattle.format.specs.Numbers.{le_i32}
use Rattle.format.specs.WellFormed.{has_rings, least_points}
use Rattle.format.proofs.Equations.{front-null, front-point, front_many, front-parts, rings_is, least-is}
use Rattle.format.proofs.KindLaws as Kinds
use Rattle.format.proofs.KindLaws.{kind_found, none_found, named_at}
use Rattle.format.proofs.LengthLaws.{content-none, content_some, content-known, lengths_form, Flags, form_flags, form-several, null_row, null-form}
use Rattle.rules.specs.Rules.{Taken, null_taken, little_at, with_form, taken_of, taken_in, own_taken}
use Rattle.rules.proofs.HeaderRules.{named}
use Rattle.rules.proofs.FirstFault.{taken_is}
use Rattle.pair.specs.declared.plans.Plan.{Plan}
use Rattle.pair.specs.Plans.{has_parts, points_alone, plan_for, planned, alone, taken_from}

-- ---- the plan of a code

-- no kind is found, or one; and no lengths, or these
pub no_kind : (z : ℤ) (r : Result Kind UnknownKind) → said_found r ≡ kind_of z → Std.None ≡ result_ok r → Std.None ≡ planned (taken_of (kind_at z))
no_kind z (Ok k) e n = cc
no_kind z (Err f) e n = sym (ap (λ (o : Option Kind). planned (taken_of o)) (none_found z (Err f) e f refl))

pub one_kind : (z : ℤ) (r : Result Kind UnknownKind) (k : Kind) → said_found r ≡ kind_of z → Std.Some k ≡ result_ok r → kind_at z ≡ some k
one_kind z (Ok j) k e s = kind_found z (Ok j) e k (let q : j ≡ k = cc in ap Ok q)
one_kind z (Err f) k e s = cc

module _ (z : ℤ) (k : Kind) (h : kind_at z ≡ some k) where
  not_taken : form_of k ≡ none → Std.None ≡ planned (taken_of (kind_at z))
  not_taken n = sym (ap planned (ap taken_of h ∙ ap (with_form k) n))

  pub no_lengths : (r : Result Lengths KindError) → said_content r ≡ content_of z → Std.None ≡ result_ok r → Std.None ≡ planned (taken_of (kind_at z))
  no_lengths (Ok l) e n = cc
  no_lengths (Err (NotTaken code)) e n = not_taken (content-none k z h (Err (NotTaken code)) e code refl)
  no_lengths (Err (Unknown code)) e n = absurd (content-known k z h (Err (Unknown code)) e code refl)

  pub these_lengths : (r : Result Lengths KindError) (l : Lengths) → said_content r ≡ content_of z → Std.Some l ≡ result_ok r → lengths_of k ≡ some l
  these_lengths (Ok j) l e s = content_some k z h (Ok j) e l (let q : j ≡ l = cc in ap Ok q)
  these_lengths (Err f) l e s = cc

-- a kind that does not say how many points there are has code 0, or one
form-parts : (k : Kind) (f : Form) → Flags k f → (k.parts ≡ has_parts f) × (cond (eqb k.code 0) 0 1 ≡ points_alone f)
form-parts k nothing e = (e.parts_is, rw e.null_is)
form-parts k one_point e = (e.parts_is, rw e.null_is)
form-parts k many_points e = (e.parts_is, rw e.null_is)
form-parts k parts e = (e.parts_is, rw e.null_is)

-- the words in front of the points
abbrev pub front_of : Bool → Bool → ℕ
front_of parted many = cond parted 22 (cond many 20 2)

pub front-of : (f : Form) → front_of (has_parts f) (several f) ≡ front_words f 0
front-of nothing = sym (front-null 0)
front-of one_point = sym (front-point 0)
front-of many_points = sym (front_many 0)
front-of parts = sym (front-parts 0)

pub is-taken : (z : ℤ) (k : Kind) (l : Lengths) (many : Bool) (points front least : ℕ) (rings : Bool)
    → kind_at z ≡ some k
    → lengths_of k ≡ some l
    → many ≡ has_several k
    → points ≡ cond (eqb k.code 0) 0 1
    → front ≡ front_of k.parts many
    → rings ≡ (eqb k.code 5 || eqb k.code 15 || eqb k.code 25)
    → least ≡ cond rings 4 2
    → Std.Some (record { kind = k; several = many; parts = k.parts; points = points; front = front; rings = rings; least = least; lengths = l }) ≡ planned (taken_of (kind_at z))
is-taken z k l many points front least rings e n ms ps fs rs ls =
    let o = lengths_form k l n in
    let flags = form_flags z k o.0 e o.1 in
    let p = form-parts k o.0 flags in
    let s = ms ∙ form-several k o.0 flags in
    let q = ps ∙ p.1 in
    let w : front ≡ front_words o.0 0 = fs ∙ (ap₂ front_of p.0 s ∙ front-of o.0) in
    let r = rs ∙ sym (rings_is k) in
    let m : least ≡ least_points k = ls ∙ (ap (λ (x : Bool). cond x 4 2) r ∙ sym (least-is k)) in
    let plan : Std.Some (record { kind = k; several = many; parts = k.parts; points = points; front = front; rings = rings; least = least; lengths = l }) ≡ planned (with_form k (some o.0)) =
    λ i. Std.Some (record { kind = k; several = s i; parts = p.0 i; points = q i; front = w i; rings = r i; least = m i; lengths = o.2 i }) in
    plan ∙ sym (ap planned (ap taken_of e ∙ ap (with_form k) o.1))

-- a plan tells the kind that it is for
form-told : (f : Form) → cond (has_parts f) parts (cond (several f) many_points (alone (points_alone f))) ≡ f
form-told nothing = refl
form-told one_point = refl
form-told many_points = refl
form-told parts = refl

told : (t : Taken) → taken_from (plan_for t) ≡ t
told t = λ i. record { kind = t.kind; form = form-told t.form i }

-- ---- and what it is for is what the rules take

-- the kind that the header names
pub in_header : (s : List ℕ) → taken_of (kind_at (le_i32 32 s)) ≡ taken_in s
in_header s = ap taken_of (named_at 32 s) ∙ sym (taken_is s)

pub none-taken : (o : Option Taken) → planned o ≡ Std.None → o ≡ none
none-taken none e = refl
none-taken (some t) e = absurd (let z : ◌≡◌ {A = ℕ} 0 1 = cc in omega arith)

pub one_taken : (o : Option Taken) (plan : Plan) → planned o ≡ Std.Some plan → (o ≡ some (taken_from plan)) × (plan ≡ plan_for (taken_from plan))
one_taken none plan e = absurd (let z : ◌≡◌ {A = ℕ} 0 1 = cc in omega arith)
one_taken (some t) plan e =
    let q : plan_for t ≡ plan = cc in
    let b : taken_from plan ≡ t = ap taken_from (sym q) ∙ told t in
    (ap some (sym b), sym q ∙ ap plan_for (sym b))

pub rings_parts : (s : List ℕ) (t : Taken) → taken_in s ≡ some t → has_rings t.kind ≡ true → has_parts t.form ≡ true
rings_parts s t e r =
    let n = named s t e in
    let q : some t.form ≡ some parts = sym n.form ∙ Kinds.rings_parts (pos (little_at 32 s)) t.kind n.row r in
    let p : t.form ≡ parts = cc in
    ap has_parts p

-- ---- Null's plan, and that of a record's own kind

null-taken : taken_of (kind_at (pos 0)) ≡ some null_taken
null-taken = ap taken_of null_row ∙ ap (with_form null_kind) null-form

pub null_plan : (plan : Plan) → planned (taken_of (kind_at (pos 0))) ≡ Std.Some plan → plan ≡ plan_for null_taken
null_plan plan e = let q : Std.Some (plan_for null_taken) ≡ Std.Some plan = sym (ap planned null-taken) ∙ e in cc

pub null-is-taken : planned (taken_of (kind_at (pos 0))) ≡ Std.None → ⊥
null-is-taken e = let z : ◌≡◌ {A = ℕ} 0 1 = cc (sym (ap planned null-taken) ∙ e) in omega arith

pub record Owned (plan own : Plan) (l : List ℕ) : Type 0 where
  pub is : own ≡ plan_for (taken_from own)
  pub ringed : own.rings ≡ true → own.parts ≡ true
  pub kind_is : taken_from own ≡ own_taken (taken_from plan) l

module _ (plan null own : Plan) (p : plan ≡ plan_for (taken_from plan)) (n : null ≡ plan_for null_taken) (ringed : plan.rings ≡ true → plan.parts ≡ true) where
  by_field : (b : Bool) → own ≡ cond b null plan
      → (own ≡ plan_for (taken_from own)) × (own.rings ≡ true → own.parts ≡ true) × (taken_from own ≡ cond b null_taken (taken_from plan))
  by_field true e =
      let q = e ∙ n in
      let t : taken_from own ≡ null_taken = ap taken_from q ∙ told null_taken in
      (q ∙ ap plan_for (sym t), λ r. absurd (let z : ◌≡◌ {A = ℕ} 0 1 = cc (ap (λ (x : Plan). x.rings) q ∙ rings_is null_kind) in omega arith), t)
  by_field false e =
      (e ∙ (p ∙ ap (λ (x : Plan). plan_for (taken_from x)) (sym e)), λ r. ap (λ (x : Plan). x.parts) e ∙ ringed (sym (ap (λ (x : Plan). x.rings) e) ∙ r), ap taken_from e)

  pub owned : (l : List ℕ) → own ≡ cond (eqb (little_at 8 l) 0) null plan → Owned plan own l
  owned l e = let q = by_field (eqb (little_at 8 l) 0) e in record { is = q.0; ringed = q.1; kind_is = q.2 }
