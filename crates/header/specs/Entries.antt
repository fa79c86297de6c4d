-- A record's header and an index entry, read and written: two i32 with the high byte first, in file order.
use Rattle.std.specs.Prelude.{List, [], ◌∷◌, ℕ, ℤ, Result, Ok, Err}
use Rattle.std.specs.Int.{w32}
use Rattle.std.proofs.Common.{of_z}
use Rattle.format.specs.declared.shapes.Short.{Short}
use Rattle.format.specs.Encoding.{two_big, entry_bytes}
use Rattle.format.specs.Numbers.{be_i32}
use Rattle.format.specs.Order.{first, field_at}
use Rattle.format.specs.Said.{Said, gives, short}
use Rattle.header.specs.declared.entries.RecordHeader.{RecordHeader}
use Rattle.header.specs.declared.entries.ShapeIndex.{ShapeIndex}

-- ---- reading

-- what is made of the two numbers; the first field that is cut decides
unfoldable pub two_of : {A : Type 0} → (ℤ → ℤ → A) → List ℕ → Said A
two_of make s = first (field_at 4 0 s short ∷ field_at 4 4 s short ∷ []) (gives (make (be_i32 0 s) (be_i32 4 s)))

abbrev pub record_header : ℤ → ℤ → RecordHeader
record_header number words = record { record_number = number; content_length = record { 0 = words } }

abbrev pub shape_index : ℤ → ℤ → ShapeIndex
shape_index offset words = record { offset = record { 0 = offset }; content_length = record { 0 = words } }

-- ---- the answers in document 01's terms

abbrev pub said_read : {A : Type 0} → Result A Short → Said A
said_read (Ok a) = gives a
said_read (Err e) = short e.at e.present

abbrev pub said_record : Result RecordHeader Short → Said RecordHeader
said_record = said_read

abbrev pub said_entry : Result ShapeIndex Short → Said ShapeIndex
said_entry = said_read

-- ---- writing

abbrev pub record_header_bytes : RecordHeader → List ℕ
record_header_bytes h = two_big (of_z w32 h.record_number) (of_z w32 h.content_length.0)

abbrev pub index_entry_bytes : ShapeIndex → List ℕ
index_entry_bytes e = entry_bytes (record { offset = of_z w32 e.offset.0; words = of_z w32 e.content_length.0 })
