-- A record read: the refusal, the shape, and what the stores then hold.
use Rattle.std.specs.Prelude.{◌≡◌, cond, Option, List, ℕ, Float, ℤ, pos, length, drop}
use Rattle.format.specs.declared.units.Bytes.{Bytes}
use Rattle.format.specs.Said.{Said}
use Rattle.boxes.specs.Boxes.{zero_double}
use Rattle.multipart.specs.declared.Body.{Body}
use Rattle.multipart.specs.Body.{no_range, counts_in, x_in, y_in, z_in, m_in}
use Rattle.record.specs.declared.Point.{Point}
use Rattle.record.specs.Reading.{Shaped, null_shape, point_shape, multipoint_shape, parts_shape, kind_in, record_of, stored}
use Rattle.export.specs.declared.records.RecordRead.{RecordRead}
use Rattle.export.specs.declared.refusals.Refusal.{Refusal}
use Rattle.export.specs.Refusals.{refusal_of, or_else}

-- ---- the shape as a struct

abbrev pub zero_point : Point
zero_point = record { x = zero_double; y = zero_double; z = zero_double; m = zero_double }

abbrev pub zero_body : Body
zero_body =
    record {
      bbox = record { xmin = zero_double; ymin = zero_double; xmax = zero_double; ymax = zero_double };
      z_range = no_range;
      m_range = no_range;
      parts = 0;
      points = 0;
    }

-- the form is 0 for Null, 1 for a point, 2 for parts and 3 for a multipoint; what a form does not have is zeros
abbrev pub shape_read : Refusal → Shaped → RecordRead
shape_read refusal null_shape =
    record { refusal = refusal; code = pos 0; form = 0; has_m = 0; point = zero_point; body = zero_body }
shape_read refusal (point_shape code point) =
    record { refusal = refusal; code = code; form = 1; has_m = 0; point = point; body = zero_body }
shape_read refusal (parts_shape code m body) =
    record { refusal = refusal; code = code; form = 2; has_m = cond m 1 0; point = zero_point; body = body }
shape_read refusal (multipoint_shape code m body) =
    record { refusal = refusal; code = code; form = 3; has_m = cond m 1 0; point = zero_point; body = body }

-- a refusal has the zeros of a Null record
abbrev pub record_read : Said Shaped → RecordRead
record_read said = shape_read (refusal_of said) (or_else null_shape said)

-- ---- the call

abbrev pub as_bytes : ℤ → Bytes
as_bytes size = record { 0 = size }

-- what reading says, with these stores
abbrev pub said_of : Option ℤ → ℤ → List ℕ → List ℕ → List Float → List Float → List Float → List Float → Said Shaped
said_of wanted size s counts xs ys zs ms = record_of wanted (as_bytes size) s (length counts) (length xs) (length ys) (length zs) (length ms)

pub record Reads (wanted : Option ℤ) (size : ℤ) (s counts : List ℕ) (xs ys zs ms : List Float) (r : RecordRead) (counts' : List ℕ) (xs' ys' zs' ms' : List Float) : Type 0 where
  pub answer_is : r ≡ record_read (said_of wanted size s counts xs ys zs ms)
  pub counts_are : counts' ≡ stored (said_of wanted size s counts xs ys zs ms) counts (λ m. counts_in (kind_in s).parts (drop 4 s))
  pub x_are : xs' ≡ stored (said_of wanted size s counts xs ys zs ms) xs (λ m. x_in (kind_in s).parts (drop 4 s))
  pub y_are : ys' ≡ stored (said_of wanted size s counts xs ys zs ms) ys (λ m. y_in (kind_in s).parts (drop 4 s))
  pub z_are : zs' ≡ stored (said_of wanted size s counts xs ys zs ms) zs (λ m. z_in (kind_in s).parts (kind_in s).z (drop 4 s))
  pub m_are : ms' ≡ stored (said_of wanted size s counts xs ys zs ms) ms (λ m. m_in (kind_in s).parts (kind_in s).z m (drop 4 s))
