-- Headers, record headers and index entries: the refusal, and what was read.
use Rattle.std.specs.Prelude.{pos}
use Rattle.format.specs.Said.{Said}
use Rattle.header.specs.declared.Header.{Header}
use Rattle.header.specs.declared.entries.RecordHeader.{RecordHeader}
use Rattle.header.specs.declared.entries.ShapeIndex.{ShapeIndex}
use Rattle.header.specs.Entries.{record_header, shape_index}
use Rattle.boxes.specs.Boxes.{zero_box}
use Rattle.export.specs.declared.headers.HeaderRead.{HeaderRead}
use Rattle.export.specs.declared.headers.RecordHeaderRead.{RecordHeaderRead}
use Rattle.export.specs.declared.headers.IndexEntryRead.{IndexEntryRead}
use Rattle.export.specs.Refusals.{refusal_of, or_else}

abbrev pub zero_header : Header
zero_header = record { file_length = record { 0 = pos 0 }; version = pos 0; shape_type = pos 0; bbox = zero_box }

abbrev pub header_read : Said Header → HeaderRead
header_read said = record { refusal = refusal_of said; header = or_else zero_header said }

abbrev pub record_header_read : Said RecordHeader → RecordHeaderRead
record_header_read said = record { refusal = refusal_of said; header = or_else (record_header (pos 0) (pos 0)) said }

abbrev pub index_entry_read : Said ShapeIndex → IndexEntryRead
index_entry_read said = record { refusal = refusal_of said; entry = or_else (shape_index (pos 0) (pos 0)) said }
