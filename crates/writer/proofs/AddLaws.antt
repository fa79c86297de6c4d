-- Laws of adding a record that passed every test: what its writers ask, and that what they leave is what document 01 says.
use mathlib.Core.Path.{◌≡◌, refl, sym, ap, ◌∙◌}
use mathlib.Core.List.{List}
use Prim.Native.Nat.{ℕ, ◌+◌, ◌*◌, ◌-◌, ◌^◌, ◌≤◌, ◌<◌}
use native.Mathlib.Omega.{arith}
use lib.Dec.{eqb}
use lib.IntN.{pos, nat_abs}
use lib.ListN.{length}
use lib.Seq.{sets}
use mir.Syntax.{w32}
use mir.Val.{of_z}
use Rattle.format.specs.declared.kinds.Kind.{Kind}
use Rattle.format.specs.declared.units.Words.{Words}
use Rattle.format.specs.Encoding.{shape_words, record_bytes, two_big}
use Rattle.format.specs.Lengths.{Form, nothing, one_point, many_points, parts}
use Rattle.format.specs.Said.{unless_refused}
use Rattle.format.specs.Shapes.{points_in}
use Rattle.format.proofs.KindLaws.{code_is}
use Rattle.format.proofs.LengthLaws.{Flags, form_flags, form-several}
use Rattle.format.proofs.Records.{points-least}
use Rattle.writer.specs.declared.State.{State}
use Rattle.std.specs.Prelude.{Err}
use Rattle.writer.specs.declared.AddError.{AddError}
use Rattle.writer.specs.declared.AddError.TheVariants.{Size, Unknown, NotTaken, Mismatch, Tables, Long, Room}
use Rattle.writer.specs.declared.judge.Judged.{Judged}
use Rattle.writer.specs.Adding.{Lent, lent_shape, record_size, record_of, entry_of, kind_then, box_then, next_state, said_refusal, Adds}
use Rattle.writer.specs.Judging.{natural_of, words_of, Whole, form_by, shape_by, words_by, AllPassed, AllRefused, Ready, kind_by, box_by, next_by}
use Rattle.writer.specs.State.{is_zero}
use Rattle.writer.proofs.LengthLaws.{whole-bytes}
use Rattle.writer.proofs.ShapeLaws.{lent-kind, lent-form, shape_is, words_are, points-lent}
use Rattle.writer.proofs.StateLaws.{Fine, fine, number_natural}

-- ---- a refusal leaves all as it was

refused_keeps {ℓ} : {B : Type ℓ} (e : AddError) (x y : B) → x ≡ unless_refused (said_refusal e) x y
refused_keeps Size x y = refl
refused_keeps (Unknown code) x y = refl
refused_keeps (NotTaken code) x y = refl
refused_keeps (Mismatch held found) x y = refl
refused_keeps Tables x y = refl
refused_keeps Long x y = refl
refused_keeps (Room n) x y = refl

-- ---- what passed

module _ {s : State} {t : Lent} {out start entry : ℕ} {j : Judged} (p : AllPassed s t out start entry j) where
  abbrev k : Kind
  k = j.kind

  numbers : Fine s
  numbers = fine s p.fine

  shape : lent_shape t ≡ shape_by k t.box t.counts t.xs t.ys t.zs t.ms
  shape = shape_is t k p.shape.of_code

  words : shape_words (lent_shape t) ≡ words_by k t.counts t.xs
  words = ap shape_words shape ∙ words_are k t.box t.counts t.xs t.ys t.zs t.ms p.shape.agrees

  pub starts : start ≤ out
  starts = omega (arith, p.shape.room)

  pub whole : 8 + 2 * words_by k t.counts t.xs ≤ out - start
  whole = omega (arith, p.shape.room, words)

  pub ready : (bytes : ℕ) → bytes ≡ out - start → Ready k t.counts t.xs t.ys t.zs t.ms bytes
  ready bytes e =
      record {
        agrees = p.shape.agrees;
        counts-held = p.shape.counts-held;
        room = omega (arith, whole);
      }

  pub size-whole : Whole j.size
  size-whole = whole-bytes (record_size t) j.size p.shape.size_is

  pub code : t.code ≡ pos k.code
  code = code_is t.code k p.shape.of_code.kind_is

  pub content : j.content ≡ words_of (words_by k t.counts t.xs)
  content = p.shape.words_are ∙ ap words_of words

  pub next_number : natural_of s.number + 1 < 2 ^ 31
  next_number = omega (arith, p.shape.held, numbers.room, number_natural s numbers)

  points : points_in (lent_shape t) ≡ length t.xs
  points = ap points_in shape ∙ points-lent k t.box t.counts t.xs t.ys t.zs t.ms p.shape.agrees

  pub next_points : s.points + length t.xs < 2 ^ 31
  next_points = omega (arith, points, points-least (lent_shape t), numbers.points-room, p.shape.held)

  flags : Flags k (form_by k)
  flags = form_flags t.code k (form_by k) p.shape.of_code.kind_is (rw p.shape.of_code.kind_is at p.shape.of_code.form_is)

  is-zero : is_zero t.code ≡ eqb k.code 0
  is-zero = ap is_zero code

  -- the kind and the box, by the form
  kind-then : (form : Form) → Flags k form → kind_by s t.code ≡ kind_then form s t
  kind-then nothing f = rw (is-zero, f.null_is)
  kind-then one_point f = rw (is-zero, f.null_is)
  kind-then many_points f = rw (is-zero, f.null_is)
  kind-then parts f = rw (is-zero, f.null_is)

  box-then : (form : Form) → Flags k form → box_by s t.code k t.box t.xs t.ys t.zs t.ms ≡ box_then form s t
  box-then nothing f = rw (is-zero, f.null_is)
  box-then one_point f = rw (is-zero, f.null_is, form-several k one_point f, p.shape.of_code.kind_is)
  box-then many_points f = rw (is-zero, f.null_is, form-several k many_points f, p.shape.of_code.kind_is)
  box-then parts f = rw (is-zero, f.null_is, form-several k parts f, p.shape.of_code.kind_is)

  pub next_is : next_by s.number j.after (kind_by s t.code) (s.points + length t.xs) (box_by s t.code k t.box t.xs t.ys t.zs t.ms) ≡ next_state s t
  unfolding next_state
  next_is =
      let form = sym (lent-form t k p.shape.of_code) in
      let kind = kind-then (form_by k) flags ∙ ap (λ (f : Form). kind_then f s t) form in
      let bbox = box-then (form_by k) flags ∙ ap (λ (f : Form). box_then f s t) form in
      λ i.
      record {
        words = p.shape.after_is i;
        number = pos (number_natural s numbers i + 1);
        kind = kind i;
        points = s.points + sym points i;
        bbox = bbox i;
      }

  number-bits : of_z w32 s.number ≡ nat_abs s.number
  number-bits = ap (of_z w32) numbers.number_is

  words-bits : of_z w32 s.words.0 ≡ nat_abs s.words.0
  words-bits = ap (of_z w32) numbers.words-is

  content-bits : of_z w32 j.content.0 ≡ shape_words (lent_shape t)
  content-bits = ap (λ (v : Words). of_z w32 v.0) p.shape.words_are

  pub record-of : record_bytes k (of_z w32 s.number) (shape_by k t.box t.counts t.xs t.ys t.zs t.ms) ≡ record_of s t
  record-of = λ i. record_bytes (sym (lent-kind t k p.shape.of_code) i) (number-bits i) (sym shape i)

  pub entry-of : two_big (of_z w32 s.words.0) (of_z w32 j.content.0) ≡ entry_of s t
  entry-of = λ i. two_big (words-bits i) (content-bits i)

-- ---- a refusal, whole

pub adds-refused : (s : State) (t : Lent) (out : List ℕ) (start : ℕ) (entry : List ℕ) (e : AddError) → AllRefused s t (length out) start (length entry) e → Adds s t out start entry (record { answer = Err e; state = s }) out entry
adds-refused s t out start entry e r =
    record {
      says = r.says;
      state_is = refused_keeps e s (next_state s t);
      out_is = refused_keeps e out (sets out start (record_of s t));
      entry_is = refused_keeps e entry (sets entry 0 (entry_of s t));
    }
