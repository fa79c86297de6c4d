-- Laws of the whole: which form a taken kind has, and how what the front and the shape say is what the record says.
use mathlib.Core.Path.{◌≡◌, refl, sym, ap, ◌∙◌}
use mathlib.Core.Bool.{Bool, true, false, cond}
use mathlib.Core.List.{List}
use mathlib.Core.Option.{Option, some}
use Prim.Native.Nat.{ℕ}
use native.Mathlib.Omega.{arith}
use lib.Dec.{eqb}
use lib.Ieee.{Float}
use lib.IntN.{ℤ}
use lib.ListN.{length, drop}
use borrow.Author.Tests.{eq-eqb, ne_eqb}
use Rattle.std.specs.Prelude.{Result, Ok, Err}
use Rattle.std.specs.Prelude as Std
use Rattle.format.specs.declared.kinds.Kind.{Kind}
use Rattle.format.specs.declared.lengths.Lengths.{Lengths}
use Rattle.format.specs.declared.units.Bytes.{Bytes}
use Rattle.format.specs.Kinds.{kind_at, kind_or}
use Rattle.format.specs.Lengths.{Form, nothing, one_point, many_points, parts, several, several_form, has_several, form_of, lengths_of, form_in, form_at}
use Rattle.format.specs.Order.{first}
use Rattle.format.specs.Said.{Said, gives, wrong_size}
use Rattle.format.proofs.LengthLaws.{Flags, lengths_form, form_flags, form-several}
use Rattle.format.proofs.LengthLaws
use Rattle.multipart.specs.Body.{counts_in, x_in, y_in, z_in, m_in, body_of}
use Rattle.multipart.specs.declared.Body.{Body}
use Rattle.multipart.specs.declared.Counts.{Counts}
use Rattle.multipart.specs.Answers.{counts_of}
use Rattle.record.specs.declared.Point.{Point}
use Rattle.record.specs.declared.Record.{Record}
use Rattle.record.specs.declared.Record.TheVariants as Is
use Rattle.record.specs.declared.RecordError.{RecordError}
use Rattle.record.specs.Reading.{Shaped, several_shape, code_in, kind_in, front_tests, point_of, moved, and_then, has_m, size_right, several_of, by_form, record_of, said_record, stored, ReadsRecord}
use Rattle.record.specs.Steps.{Passes, Refuses, said_point, Reads, rest_from, several_from}
use Rattle.record.proofs.SeveralLaws.{kept}

-- ---- the form of a taken kind

module _ (z : ℤ) (k : Kind) (l : Lengths) (here : kind_at z ≡ some k) (taken : lengths_of k ≡ some l) where
  formed : (form : Form) × (form_of k ≡ some form)
  formed = let q = lengths_form k l taken in (q.0, q.1)

  flags : Flags k formed.0
  flags = form_flags z k formed.0 here formed.1

  of_form : (f : Form) → formed.0 ≡ f → form_of k ≡ some f
  of_form f e = formed.1 ∙ ap some e

  pub null-form : k.code ≡ 0 → form_of k ≡ some nothing
  null-form e = of_form nothing (go formed.0 flags (eq-eqb k.code 0 e))
    where
      go : (f : Form) → Flags k f → eqb k.code 0 ≡ true → f ≡ nothing
      go nothing t e = refl
      go one_point t e = absurd (let q = sym e ∙ t.null_is in let z : ◌≡◌ {A = ℕ} 0 1 = cc in omega arith)
      go many_points t e = absurd (let q = sym e ∙ t.null_is in let z : ◌≡◌ {A = ℕ} 0 1 = cc in omega arith)
      go parts t e = absurd (let q = sym e ∙ t.null_is in let z : ◌≡◌ {A = ℕ} 0 1 = cc in omega arith)

  several-is : several formed.0 ≡ has_several k
  several-is = sym (form-several k formed.0 flags)

  pub several-form : has_several k ≡ true → form_of k ≡ some (several_form k.parts)
  several-form e = of_form (several_form k.parts) (LengthLaws.several-form k formed.0 flags (several-is ∙ e))

  pub point-form : (k.code ≡ 0 → ⊥) → has_several k ≡ false → form_of k ≡ some one_point
  point-form n e = of_form one_point (go formed.0 flags (ne_eqb k.code 0 n) (several-is ∙ e))
    where
      go : (f : Form) → Flags k f → eqb k.code 0 ≡ false → several f ≡ false → f ≡ one_point
      go nothing t n e = absurd (let q = sym n ∙ t.null_is in let z : ◌≡◌ {A = ℕ} 0 1 = cc in omega arith)
      go one_point t n e = refl
      go many_points t n e = absurd (let z : ◌≡◌ {A = ℕ} 0 1 = cc in omega arith)
      go parts t n e = absurd (let z : ◌≡◌ {A = ℕ} 0 1 = cc in omega arith)

-- ---- the shape by its form

module _ (k : Kind) (size : Bytes) (s counts : List ℕ) (xs ys zs ms : List Float) where
  abbrev said : Option Form → Said Shaped
  said o = by_form o k size s (length counts) (length xs) (length ys) (length zs) (length ms)

  abbrev Shape : Result Record RecordError → List ℕ → List Float → List Float → List Float → List Float → Type 0
  Shape r counts' xs' ys' zs' ms' = Reads (by_form (form_of k) k size s) k (drop 4 s) counts xs ys zs ms r counts' xs' ys' zs' ms'

  pub null-shape : form_of k ≡ some nothing → Shape (Ok Is.Null) counts xs ys zs ms
  null-shape e = record { says = ap said (sym e); counts_are = refl; x_are = refl; y_are = refl; z_are = refl; m_are = refl }

  module _ (code : ℤ) (e : form_of k ≡ some one_point) where
    pub point_refused : (r : RecordError) → said_point code (Err r) ≡ point_of k size s → Shape (Err r) counts xs ys zs ms
    point_refused r h =
        record {
          says = h ∙ ap said (sym e);
          counts_are = kept r counts _;
          x_are = kept r xs _;
          y_are = kept r ys _;
          z_are = kept r zs _;
          m_are = kept r ms _;
        }

    pub point_read : (p : Point) → said_point code (Ok p) ≡ point_of k size s → Shape (Ok (Is.Point code p)) counts xs ys zs ms
    point_read p h = record { says = h ∙ ap said (sym e); counts_are = refl; x_are = refl; y_are = refl; z_are = refl; m_are = refl }

  several_are : several_from (code_in s) k size (drop 4 s) (length counts) (length xs) (length ys) (length zs) (length ms) ≡ several_of k size s (length counts) (length xs) (length ys) (length zs) (length ms)
  unfolding several_from several_of rest_from
  several_are = refl

  by_several : (f : Bool) → several_of k size s (length counts) (length xs) (length ys) (length zs) (length ms) ≡ said (some (several_form f))
  by_several true = refl
  by_several false = refl

  pub several-shape : (code : ℤ) (b : List ℕ) (r : Result Record RecordError) (counts' : List ℕ) (xs' ys' zs' ms' : List Float) → form_of k ≡ some (several_form k.parts) → code ≡ code_in s → b ≡ drop 4 s → Reads (several_from code k size b) k b counts xs ys zs ms r counts' xs' ys' zs' ms' → Shape r counts' xs' ys' zs' ms'
  several-shape code b r counts' xs' ys' zs' ms' e f g h =
      let i : Reads (several_from (code_in s) k size (drop 4 s)) k (drop 4 s) counts xs ys zs ms r counts' xs' ys' zs' ms' = rw (f, g) at h in
      record {
        says = i.says ∙ (several_are ∙ (by_several k.parts ∙ ap said (sym e)));
        counts_are = i.counts_are;
        x_are = i.x_are;
        y_are = i.y_are;
        z_are = i.z_are;
        m_are = i.m_are;
      }

-- what is said, by what the body's reader says
pub several_by : (k : Kind) (size : Bytes) (s : List ℕ) (counts xs ys zs ms : ℕ) (said : Bool → Said Body) → ((m : Bool) → body_of k.parts k.z m (drop 4 s) counts xs ys zs ms ≡ said m) → several_of k size s counts xs ys zs ms ≡ and_then (moved (counts_of k.parts (drop 4 s))) (λ two. cond (size_right k size two) (and_then (moved (said (has_m k size two))) (λ body. gives (several_shape k.parts (code_in s) (has_m k size two) body))) (wrong_size 0))
unfolding several_of
several_by k size s counts xs ys zs ms said e = λ i. and_then (moved (counts_of k.parts (drop 4 s))) (λ two. cond (size_right k size two) (and_then (moved (e (has_m k size two) i)) (λ body. gives (several_shape k.parts (code_in s) (has_m k size two) body))) (wrong_size 0))

pub record_is : (wanted : Std.Option ℤ) (size : Bytes) (s : List ℕ) (counts xs ys zs ms : ℕ) → record_of wanted size s counts xs ys zs ms ≡ first (front_tests wanted size s) (by_form (form_at (code_in s)) (kind_in s) size s counts xs ys zs ms)
unfolding record_of
record_is wanted size s counts xs ys zs ms = refl

-- a body whose counts, size and rest are well
pub several-said : (k : Kind) (size : Bytes) (s : List ℕ) (counts xs ys zs ms : ℕ) (t : Counts) (body : Body) → counts_of k.parts (drop 4 s) ≡ gives t → size_right k size t ≡ true → body_of k.parts k.z (has_m k size t) (drop 4 s) counts xs ys zs ms ≡ gives body → several_of k size s counts xs ys zs ms ≡ gives (several_shape k.parts (code_in s) (has_m k size t) body)
unfolding several_of
several-said k size s counts xs ys zs ms t body e q f = rw (e, q, f)

-- ---- the record

pub by-kind : (wanted : Std.Option ℤ) (size : Bytes) (s : List ℕ) (k : Kind) (counts xs ys zs ms : ℕ) → Passes (front_tests wanted size s) → kind_at (code_in s) ≡ some k → by_form (form_of k) k size s counts xs ys zs ms ≡ record_of wanted size s counts xs ys zs ms
unfolding record_of
by-kind wanted size s k counts xs ys zs ms p e =
    ap (λ (o : Option Kind). by_form (form_in o) (kind_or o) size s counts xs ys zs ms) (sym e) ∙ sym (p _)

module _ (wanted : Std.Option ℤ) (size : Bytes) (s counts : List ℕ) (xs ys zs ms : List Float) where
  pub refused : (e : RecordError) → Refuses (front_tests wanted size s) e → ReadsRecord wanted size s counts xs ys zs ms (Err e) counts xs ys zs ms
  unfolding record_of
  refused e h =
      record {
        says = h _;
        counts_are = kept e counts _;
        x_are = kept e xs _;
        y_are = kept e ys _;
        z_are = kept e zs _;
        m_are = kept e ms _;
      }

  module _ (k : Kind) (p : Passes (front_tests wanted size s)) (here : kind_at (code_in s) ≡ some k) where
    named : k ≡ kind_in s
    named = ap kind_or (sym here)

    pub shaped : (r : Result Record RecordError) (counts' : List ℕ) (xs' ys' zs' ms' : List Float) → Reads (by_form (form_of k) k size s) k (drop 4 s) counts xs ys zs ms r counts' xs' ys' zs' ms' → ReadsRecord wanted size s counts xs ys zs ms r counts' xs' ys' zs' ms'
    shaped r counts' xs' ys' zs' ms' h =
        record {
          says = h.says ∙ by-kind wanted size s k _ _ _ _ _ p here;
          counts_are = h.counts_are ∙ ap (λ (x : Kind). stored (said_record r) counts (λ m. counts_in x.parts (drop 4 s))) named;
          x_are = h.x_are ∙ ap (λ (x : Kind). stored (said_record r) xs (λ m. x_in x.parts (drop 4 s))) named;
          y_are = h.y_are ∙ ap (λ (x : Kind). stored (said_record r) ys (λ m. y_in x.parts (drop 4 s))) named;
          z_are = h.z_are ∙ ap (λ (x : Kind). stored (said_record r) zs (λ m. z_in x.parts x.z (drop 4 s))) named;
          m_are = h.m_are ∙ ap (λ (x : Kind). stored (said_record r) ms (λ m. m_in x.parts x.z m (drop 4 s))) named;
        }
