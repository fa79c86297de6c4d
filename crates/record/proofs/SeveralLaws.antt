-- Laws of bodies behind the kind's field: an answer of the body is the record's, its offset moved by 4.
use mathlib.Core.Path.{◌≡◌, refl, ap, ◌∙◌, subst}
use mathlib.Core.Bool.{Bool, true, false, cond}
use mathlib.Core.List.{List}
use Prim.Native.Nat.{ℕ, ◌+◌, ◌^◌, ◌<◌}
use native.Mathlib.Omega.{arith}
use lib.Ieee.{Float}
use lib.IntN.{ℤ}
use lib.ListN.{length}
use lib.Seq.{sets}
use Rattle.std.specs.Prelude.{Some, None, Result, Ok, Err}
use Rattle.std.specs.Result.{MatchResult, IsErrAnd}
use Rattle.format.specs.declared.kinds.Kind.{Kind}
use Rattle.format.specs.declared.units.Bytes.{Bytes}
use Rattle.format.specs.Said.{Said, gives, wrong_size, unless_refused}
use Rattle.format.proofs.Placed.{offset}
use Rattle.multipart.specs.declared.Body.{Body}
use Rattle.multipart.specs.declared.BodyError.{BodyError}
use Rattle.multipart.specs.declared.Counts.{Counts}
use Rattle.multipart.specs.declared.CountsError.{CountsError}
use Rattle.multipart.specs.Answers.{counts_of}
use Rattle.multipart.specs.Answers.{of_counts, said_counts, said_body, ReadsBody}
use Rattle.multipart.specs.Body.{counts_in, x_in, y_in, z_in, m_in}
use Rattle.multipart.proofs.Placed.{counts-offset, body-offset}
use Rattle.record.specs.declared.Record.{Record}
use Rattle.record.specs.declared.Record.TheVariants as Is
use Rattle.record.specs.declared.RecordError.{RecordError}
use Rattle.record.specs.declared.RecordError.TheVariants as Error
use Rattle.record.specs.Reading.{Shaped, several_shape, moved, and_then, has_m, size_right, said_error, said_record, stored}
use Rattle.record.specs.Steps.{Sizes, Reads, Movable, behind, rest_from, several_from}

-- ---- a call whose refusals are changed: what it gave, from what is left

module _ {A E D : Type 0} (Q : E → D → Type 0) where
  abbrev pub Mapped : Result A E → Result A D → Type 0
  Mapped r r' = MatchResult r (λ x. r' ≡ Ok x) (λ e. IsErrAnd r' (Q e))

  pub mapped_ok : (r : Result A E) (r' : Result A D) → Mapped r r' → (x : A) → r' ≡ Ok x → r ≡ Ok x
  mapped_ok (Ok y) r' h x g = cc
  mapped_ok (Err e) (Ok y) h x g = absurd h
  mapped_ok (Err e) (Err d) h x g = cc

  pub mapped_err : (r : Result A E) (r' : Result A D) → Mapped r r' → (d : D) → r' ≡ Err d → (e : E) × (r ≡ Err e) × Q e d
  mapped_err (Ok x) r' h d g = absurd (let q : ⊥ = cc in q)
  mapped_err (Err e) (Ok x) h d g = absurd h
  mapped_err (Err e) (Err f) h d g = let q : f ≡ d = cc in (e, refl, subst (Q e) q h)

-- ---- a refusal puts nothing into a store

pub kept : {A : Type 0} (e : RecordError) (store : List A) (values : Bool → List A) → store ≡ stored (said_error e) store values
kept (Error.Short e) store values = refl
kept (Error.Size at) store values = refl
kept (Error.Unknown code) store values = refl
kept (Error.Mismatch wanted found) store values = refl
kept (Error.Room p n) store values = refl
kept (Error.NotTaken code) store values = refl

-- nor does one of a body
body_kept : {A : Type 0} (e : BodyError) (store values : List A) → unless_refused (said_body (Err e)) store values ≡ store
body_kept (BodyError.Short e) store values = refl
body_kept (BodyError.Size at) store values = refl
body_kept (BodyError.Room p n) store values = refl

-- ---- there is room to move an offset

counts_near : (e : CountsError) → offset (said_counts (Err e)) + 4 < 2 ^ 64 → Movable (of_counts e)
counts_near (CountsError.Short e) h = omega arith
counts_near (CountsError.Size at) h = omega arith

body_near : (e : BodyError) → offset (said_body (Err e)) + 4 < 2 ^ 64 → Movable e
body_near (BodyError.Short e) h = omega arith
body_near (BodyError.Size at) h = omega arith
body_near (BodyError.Room p n) h = tt

module _ (b : List ℕ) (long : length b + 4 < 2 ^ 64) where
  pub counts_movable : (parts : Bool) (e : CountsError) → said_counts (Err e) ≡ counts_of parts b → Movable (of_counts e)
  counts_movable parts e told = counts_near e (omega (arith, counts-offset parts b (said_counts (Err e)) told))

  pub body_movable : (parts z m : Bool) (counts : List ℕ) (xs ys zs ms : List Float) (e : BodyError) (counts' : List ℕ) (xs' ys' zs' ms' : List Float) → ReadsBody parts z m b counts xs ys zs ms (Err e) counts' xs' ys' zs' ms' → Movable e
  body_movable parts z m counts xs ys zs ms e counts' xs' ys' zs' ms' h =
      body_near e (omega (arith, body-offset parts z m b _ _ _ _ _ (said_body (Err e)) h.says))

-- ---- what is said behind the kind's field

counts_behind : (e : CountsError) (f : Counts → Said Shaped) → said_error (behind (of_counts e)) ≡ and_then (moved (said_counts (Err e))) f
counts_behind (CountsError.Short e) f = refl
counts_behind (CountsError.Size at) f = refl

body_behind : (e : BodyError) (f : Body → Said Shaped) → said_error (behind e) ≡ and_then (moved (said_body (Err e))) f
body_behind (BodyError.Short e) f = refl
body_behind (BodyError.Size at) f = refl
body_behind (BodyError.Room p n) f = refl

-- a body that was read, by whether it has parts
abbrev pub whole : Bool → ℤ → Bool → Body → Record
whole true code m body = Is.Parts code m body
whole false code m body = Is.Multipoint code m body

whole-said : (parts : Bool) (code : ℤ) (m : Bool) (body : Body) → said_record (Ok (whole parts code m body)) ≡ gives (several_shape parts code m body)
whole-said true code m body = refl
whole-said false code m body = refl

whole-stored : {A : Type 0} (parts : Bool) (code : ℤ) (m : Bool) (body : Body) (store : List A) (values : Bool → List A) → sets store 0 (values m) ≡ stored (said_record (Ok (whole parts code m body))) store values
whole-stored true code m body store values = refl
whole-stored false code m body store values = refl

-- ---- each answer

module _ (code : ℤ) (k : Kind) (size : Bytes) (b counts : List ℕ) (xs ys zs ms : List Float) where
  abbrev rest : Bool → Said Shaped
  rest m = rest_from code k.parts k.z m b (length counts) (length xs) (length ys) (length zs) (length ms)

  abbrev next : Counts → Said Shaped
  next t = cond (size_right k size t) (rest (has_m k size t)) (wrong_size 0)

  abbrev all : Said Shaped
  all = several_from code k size b (length counts) (length xs) (length ys) (length zs) (length ms)

  abbrev Gives : Result Record RecordError → List ℕ → List Float → List Float → List Float → List Float → Type 0
  Gives r counts' xs' ys' zs' ms' = Reads (several_from code k size b) k b counts xs ys zs ms r counts' xs' ys' zs' ms'

  from_counts : (r : Said Counts) → r ≡ counts_of k.parts b → and_then (moved r) next ≡ all
  unfolding several_from
  from_counts r e = ap (λ (x : Said Counts). and_then (moved x) next) e

  none_stored : (e : RecordError) → said_error e ≡ all → Gives (Err e) counts xs ys zs ms
  none_stored e h = record { says = h; counts_are = kept e counts _; x_are = kept e xs _; y_are = kept e ys _; z_are = kept e zs _; m_are = kept e ms _ }

  pub counts_refused : (e : CountsError) → said_counts (Err e) ≡ counts_of k.parts b → Gives (Err (behind (of_counts e))) counts xs ys zs ms
  counts_refused e told = none_stored (behind (of_counts e)) (counts_behind e next ∙ from_counts _ told)

  module _ (c : Counts) (told : said_counts (Ok c) ≡ counts_of k.parts b) where
    pub size_refused : Sizes k size c None → Gives (Err (Error.Size 0)) counts xs ys zs ms
    size_refused q = none_stored (Error.Size 0) (rw q at (from_counts _ told))

    module _ (m : Bool) (sized : Sizes k size c (Some m)) (counts' : List ℕ) (xs' ys' zs' ms' : List Float) where
      settled : rest m ≡ all
      settled = rw (sized.0, sized.1) at (from_counts _ told)

      pub body_refused : (e : BodyError) → ReadsBody k.parts k.z m b counts xs ys zs ms (Err e) counts' xs' ys' zs' ms' → Gives (Err (behind e)) counts' xs' ys' zs' ms'
      unfolding rest_from
      body_refused e h =
          record {
            says = body_behind e _ ∙ (ap (λ (x : Said Body). and_then (moved x) (λ body. gives (several_shape k.parts code m body))) h.says ∙ settled);
            counts_are = h.counts_are ∙ (body_kept e counts _ ∙ kept (behind e) counts _);
            x_are = h.x_are ∙ (body_kept e xs _ ∙ kept (behind e) xs _);
            y_are = h.y_are ∙ (body_kept e ys _ ∙ kept (behind e) ys _);
            z_are = h.z_are ∙ (body_kept e zs _ ∙ kept (behind e) zs _);
            m_are = h.m_are ∙ (body_kept e ms _ ∙ kept (behind e) ms _);
          }

      body_here : (body : Body) → ReadsBody k.parts k.z m b counts xs ys zs ms (Ok body) counts' xs' ys' zs' ms' → Gives (Ok (whole k.parts code m body)) counts' xs' ys' zs' ms'
      unfolding rest_from
      body_here body h =
          record {
            says = whole-said k.parts code m body ∙ (ap (λ (x : Said Body). and_then (moved x) (λ body. gives (several_shape k.parts code m body))) h.says ∙ settled);
            counts_are = h.counts_are ∙ whole-stored k.parts code m body counts (λ m. counts_in k.parts b);
            x_are = h.x_are ∙ whole-stored k.parts code m body xs (λ m. x_in k.parts b);
            y_are = h.y_are ∙ whole-stored k.parts code m body ys (λ m. y_in k.parts b);
            z_are = h.z_are ∙ whole-stored k.parts code m body zs (λ m. z_in k.parts k.z b);
            m_are = h.m_are ∙ whole-stored k.parts code m body ms (λ m. m_in k.parts k.z m b);
          }

      -- with the flag that the code has tested
      pub body_read : (body : Body) → ReadsBody k.parts k.z m b counts xs ys zs ms (Ok body) counts' xs' ys' zs' ms' → (f : Bool) → k.parts ≡ f → Gives (Ok (whole f code m body)) counts' xs' ys' zs' ms'
      body_read body h f e = subst (λ (x : Bool). Gives (Ok (whole x code m body)) counts' xs' ys' zs' ms') e (body_here body h)
