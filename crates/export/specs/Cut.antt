-- What a caller may conclude from refusal 1, whichever call gives it: where the bytes end, and how many of the field's bytes are present.
use Rattle.std.specs.Prelude.{◌≡◌, Bool, Option, List, ℕ, ◌+◌, ◌<◌, ℤ, length}
use Rattle.format.specs.declared.units.Bytes.{Bytes}
use Rattle.format.specs.Lengths.{form_at}
use Rattle.header.specs.Entries.{two_of, record_header, shape_index}
use Rattle.header.specs.Reading.{header_of, header_width}
use Rattle.multipart.specs.Answers.{counts_of}
use Rattle.multipart.specs.Body.{body_of, body_width}
use Rattle.record.specs.Reading.{code_in, record_of, content_width}
use Rattle.export.specs.declared.refusals.Refusal.{Refusal}
use Rattle.export.specs.Refusals.{refusal_of}

-- the calls that read fields of lent bytes, with what each is asked beside the bytes; of lent stores, their lengths
pub data Call : Type 0 where
  read_header : Call
  read_record_header : Call
  read_index_entry : Call
  read_counts : (parts : Bool) → Call
  read_body : (parts z m : Bool) (counts xs ys zs ms : ℕ) → Call
  read_record : (wanted : Option ℤ) (size : Bytes) (counts xs ys zs ms : ℕ) → Call

-- its refusal of these bytes
abbrev pub refusal_from : Call → List ℕ → Refusal
refusal_from read_header s = refusal_of (header_of s)
refusal_from read_record_header s = refusal_of (two_of record_header s)
refusal_from read_index_entry s = refusal_of (two_of shape_index s)
refusal_from (read_counts parts) s = refusal_of (counts_of parts s)
refusal_from (read_body parts z m counts xs ys zs ms) s = refusal_of (body_of parts z m s counts xs ys zs ms)
refusal_from (read_record wanted size counts xs ys zs ms) s = refusal_of (record_of wanted size s counts xs ys zs ms)

-- how wide the field at a place of them is
abbrev pub width_at : Call → List ℕ → ℕ → ℕ
width_at read_header s at = header_width at
width_at read_record_header s at = 4
width_at read_index_entry s at = 4
width_at (read_counts parts) s at = body_width parts s at
width_at (read_body parts z m counts xs ys zs ms) s at = body_width parts s at
width_at (read_record wanted size counts xs ys zs ms) s at = content_width (form_at (code_in s)) s at

-- the bytes end inside the field that the refusal names: what it counts are the last of the bytes, and fewer than the field has
pub record EndsInField (width : ℕ → ℕ) (s : List ℕ) (r : Refusal) : Type 0 where
  pub ends : r.first + r.second ≡ length s
  pub fewer : r.second < width r.first

abbrev pub CutTells : Type 0
CutTells = (call : Call) (s : List ℕ) → (refusal_from call s).number ≡ 1 → EndsInField (width_at call s) s (refusal_from call s)
