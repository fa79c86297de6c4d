-- Reading a record from its content and a size in bytes, with a wanted kind or none: the order of refusals, and what is read.
use Rattle.std.specs.Prelude.{◌≡◌, Bool, true, false, cond, ◌&&◌, ◌||◌, not, List, [], ◌∷◌, ◌++◌, ℕ, ◌+◌, ◌*◌, ◌-◌, eqb, leb, Float, ℤ, pos, ◌+ℤ◌, ◌-ℤ◌, length, drop, Result, Ok, Err}
use Rattle.std.specs.Prelude as Std
use Rattle.std.proofs.Math.Option.{Option, none, some}
use Rattle.std.specs.Float.{binary64}
use Rattle.std.specs.Float.Ieee.{of_int}
use Rattle.std.proofs.lemmas.List.Edits.{sets}
use Rattle.format.specs.declared.kinds.Kind.{Kind}
use Rattle.format.specs.declared.units.Bytes.{Bytes}
use Rattle.format.specs.Kinds.{known, kind_at, kind_or}
use Rattle.format.specs.Lengths.{Form, nothing, one_point, many_points, parts, several_form, content_words, form_at}
use Rattle.format.specs.Numbers.{le_i32, le_f64}
use Rattle.format.specs.Order.{first, field_at, fields_from}
use Rattle.format.specs.Said.{Said, gives, refuses, short, wrong_size, unknown, mismatch, room, not_taken}
use Rattle.format.specs.Shapes.{there}
use Rattle.format.specs.Units.{same_int, in_i32}
use Rattle.multipart.specs.declared.Body.{Body}
use Rattle.multipart.specs.declared.Counts.{Counts}
use Rattle.multipart.specs.Answers.{counts_of}
use Rattle.multipart.specs.Body.{body_width, body_of, counts_in, x_in, y_in, z_in, m_in}
use Rattle.record.specs.declared.Point.{Point}
use Rattle.record.specs.declared.Record.{Record}
use Rattle.record.specs.declared.Record.TheVariants as Is
use Rattle.record.specs.declared.RecordError.{RecordError}
use Rattle.record.specs.declared.RecordError.TheVariants as Error

-- what is read: nothing, a point, or the body of a multipoint or of parts with whether it has m
pub data Shaped : Type 0 where
  null_shape : Shaped
  point_shape : ℤ → Point → Shaped
  multipoint_shape : ℤ → Bool → Body → Shaped
  parts_shape : ℤ → Bool → Body → Shaped

-- ---- the kind's field

abbrev pub code_in : List ℕ → ℤ
code_in s = le_i32 0 s

-- the kind that the content names
abbrev pub kind_in : List ℕ → Kind
kind_in s = kind_or (kind_at (code_in s))

-- a kind that is taken
abbrev pub is_taken : ℤ → Bool
is_taken code = there (form_at code)

-- ---- the tests in front of the shape

-- a wanted kind is known and taken; for a typed read 0 is not
abbrev pub wanted_tests : {A : Type 0} → Std.Option ℤ → List (Bool × Said A)
wanted_tests Std.None = []
wanted_tests (Std.Some code) = (known code, unknown code) ∷ (is_taken code && not (same_int code (pos 0)), not_taken code) ∷ []

abbrev pub mismatch_tests : {A : Type 0} → Std.Option ℤ → ℤ → List (Bool × Said A)
mismatch_tests Std.None found = []
mismatch_tests (Std.Some code) found = (same_int code found, mismatch code found) ∷ []

-- the kind's field; size minus 4 must not leave i32; mismatch; not taken
abbrev pub found_tests : {A : Type 0} → Std.Option ℤ → Bytes → List ℕ → List (Bool × Said A)
found_tests wanted size s =
    field_at 4 0 s short
    ∷ (known (code_in s), unknown (code_in s))
    ∷ (in_i32 (size.0 -ℤ pos 4), wrong_size 0)
    ∷ (mismatch_tests wanted (code_in s) ++ ((is_taken (code_in s), not_taken (code_in s)) ∷ []))

-- the wanted kind before them
abbrev pub front_tests : {A : Type 0} → Std.Option ℤ → Bytes → List ℕ → List (Bool × Said A)
front_tests wanted size s = wanted_tests wanted ++ found_tests wanted size s

-- ---- the forms

-- the size is so many words
abbrev pub is_words : Bytes → ℕ → Bool
is_words size words = same_int size.0 (pos (2 * words))

-- X, Y, then Z if any, then M if any; zeros for what is not there
abbrev pub point_in : Kind → List ℕ → Point
point_in k s =
    record {
      x = le_f64 4 s;
      y = le_f64 12 s;
      z = cond k.z (le_f64 20 s) (of_int binary64 (pos 0));
      m = cond k.m (le_f64 (cond k.z 28 20) s) (of_int binary64 (pos 0));
    }

abbrev pub doubles_of : Kind → ℕ
doubles_of k = 2 + (cond k.z 1 0 + cond k.m 1 0)

unfoldable pub point_of : Kind → Bytes → List ℕ → Said Shaped
point_of k size s =
    first ((is_words size (content_words one_point k.z k.m 0 1), wrong_size 0) ∷ fields_from 8 (doubles_of k) 4 s short)
    (gives (point_shape (code_in s) (point_in k s)))

-- an offset that is counted from the body's first byte, which is the content's fifth; what follows it is no offset
abbrev pub ahead : List ℤ → List ℤ
ahead [] = []
ahead (offset ∷ more) = (pos 4 +ℤ offset) ∷ more

abbrev pub moved : {A : Type 0} → Said A → Said A
moved (gives a) = gives a
moved (refuses n values) = cond (eqb n 1 || eqb n 3) (refuses n (ahead values)) (refuses n values)

-- what follows from what is given
abbrev pub and_then : {A B : Type 0} → Said A → (A → Said B) → Said B
and_then (gives a) f = f a
and_then (refuses n values) f = refuses n values

abbrev pub has_m : Kind → Bytes → Counts → Bool
has_m k size two = k.m && is_words size (content_words (several_form k.parts) k.z true two.parts two.points)

abbrev pub size_right : Kind → Bytes → Counts → Bool
size_right k size two = is_words size (content_words (several_form k.parts) k.z false two.parts two.points) || has_m k size two

-- a body, by whether it has parts
abbrev pub several_shape : Bool → ℤ → Bool → Body → Shaped
several_shape true code m body = parts_shape code m body
several_shape false code m body = multipoint_shape code m body

-- box and counts, the signs; then the size must be twice a formula of the table, which settles whether m is read; then the rest
unfoldable pub several_of : Kind → Bytes → List ℕ → ℕ → ℕ → ℕ → ℕ → ℕ → Said Shaped
several_of k size s counts xs ys zs ms =
    and_then (moved (counts_of k.parts (drop 4 s)))
    (λ two.
    cond (size_right k size two)
    (and_then (moved (body_of k.parts k.z (has_m k size two) (drop 4 s) counts xs ys zs ms))
    (λ body. gives (several_shape k.parts (code_in s) (has_m k size two) body)))
    (wrong_size 0))

abbrev pub by_form : Option Form → Kind → Bytes → List ℕ → ℕ → ℕ → ℕ → ℕ → ℕ → Said Shaped
by_form none k size s counts xs ys zs ms = not_taken (code_in s)
by_form (some nothing) k size s counts xs ys zs ms = gives null_shape
by_form (some one_point) k size s counts xs ys zs ms = point_of k size s
by_form (some many_points) k size s counts xs ys zs ms = several_of k size s counts xs ys zs ms
by_form (some parts) k size s counts xs ys zs ms = several_of k size s counts xs ys zs ms

-- what reading a record says, with stores of these lengths
unfoldable pub record_of : Std.Option ℤ → Bytes → List ℕ → ℕ → ℕ → ℕ → ℕ → ℕ → Said Shaped
record_of wanted size s counts xs ys zs ms =
    first (front_tests wanted size s) (by_form (form_at (code_in s)) (kind_in s) size s counts xs ys zs ms)

-- how wide the field at a place of a content of a form is: the kind's has four bytes; behind it the body's fields, or a point's, of eight
abbrev pub width_by : Option Form → List ℕ → ℕ → ℕ
width_by none b at = 8
width_by (some nothing) b at = 8
width_by (some one_point) b at = 8
width_by (some many_points) b at = body_width false b at
width_by (some parts) b at = body_width true b at

abbrev pub content_width : Option Form → List ℕ → ℕ → ℕ
content_width form s at = cond (leb 4 at) (width_by form (drop 4 s) (at - 4)) 4

-- ---- the answer in document 01's terms, and the stores

abbrev pub said_error : {A : Type 0} → RecordError → Said A
said_error (Error.Short e) = short e.at e.present
said_error (Error.Size at) = wrong_size at
said_error (Error.Unknown code) = unknown code
said_error (Error.Mismatch wanted found) = mismatch wanted found
said_error (Error.Room p n) = room p n
said_error (Error.NotTaken code) = not_taken code

abbrev pub said_record : Result Record RecordError → Said Shaped
said_record (Ok Is.Null) = gives null_shape
said_record (Ok (Is.Point code p)) = gives (point_shape code p)
said_record (Ok (Is.Multipoint code m body)) = gives (multipoint_shape code m body)
said_record (Ok (Is.Parts code m body)) = gives (parts_shape code m body)
said_record (Err e) = said_error e

-- what goes into a store: only several points have any
abbrev pub stored : {A : Type 0} → Said Shaped → List A → (Bool → List A) → List A
stored (gives null_shape) store values = store
stored (gives (point_shape code p)) store values = store
stored (gives (multipoint_shape code m body)) store values = sets store 0 (values m)
stored (gives (parts_shape code m body)) store values = sets store 0 (values m)
stored (refuses n vs) store values = store

pub record ReadsRecord (wanted : Std.Option ℤ) (size : Bytes) (s counts : List ℕ) (xs ys zs ms : List Float) (r : Result Record RecordError) (counts' : List ℕ) (xs' ys' zs' ms' : List Float) : Type 0 where
  pub says : said_record r ≡ record_of wanted size s (length counts) (length xs) (length ys) (length zs) (length ms)
  pub counts_are : counts' ≡ stored (said_record r) counts (λ m. counts_in (kind_in s).parts (drop 4 s))
  pub x_are : xs' ≡ stored (said_record r) xs (λ m. x_in (kind_in s).parts (drop 4 s))
  pub y_are : ys' ≡ stored (said_record r) ys (λ m. y_in (kind_in s).parts (drop 4 s))
  pub z_are : zs' ≡ stored (said_record r) zs (λ m. z_in (kind_in s).parts (kind_in s).z (drop 4 s))
  pub m_are : ms' ≡ stored (said_record r) ms (λ m. m_in (kind_in s).parts (kind_in s).z m (drop 4 s))
