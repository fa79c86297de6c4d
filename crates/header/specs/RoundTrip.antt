-- What is proved of reading and writing together, of headers and of entries; the proofs stand in proofs/RoundTrip.antt and EntriesBack.antt.
use Rattle.std.specs.Prelude.{◌≡◌, true, false, List, ◌↔◌, ℕ, ◌+◌, ◌*◌, ◌<◌, T, take, replicate, get_or}
use Rattle.std.specs.Float.{binary64}
use Rattle.std.specs.Float.Ieee.{fits}
use Rattle.std.specs.Int.Signed.{non_neg}
use Rattle.std.specs.Int.{w32}
use Rattle.std.proofs.Common.{SFits}
use Rattle.format.specs.Bytes.{le, field}
use Rattle.format.specs.Kinds.{known}
use Rattle.format.specs.Numbers.{PlainNan}
use Rattle.format.specs.Said.{gives, wrong_size}
use Rattle.header.specs.declared.bbox.BBoxZ.{BBoxZ}
use Rattle.header.specs.declared.Header.{Header}
use Rattle.header.specs.declared.entries.RecordHeader.{RecordHeader}
use Rattle.header.specs.declared.entries.ShapeIndex.{ShapeIndex}
use Rattle.header.specs.Entries.{two_of, record_header, shape_index, record_header_bytes, index_entry_bytes}
use Rattle.header.specs.Reading.{header_of}
use Rattle.header.specs.Writing.{bytes_of}

-- each of the eight is a double, as the type says
pub record Doubles (b : BBoxZ) : Type 0 where
  pub xmin : T (fits binary64 b.xmin)
  pub ymin : T (fits binary64 b.ymin)
  pub xmax : T (fits binary64 b.xmax)
  pub ymax : T (fits binary64 b.ymax)
  pub zmin : T (fits binary64 b.zmin)
  pub zmax : T (fits binary64 b.zmax)
  pub mmin : T (fits binary64 b.mmin)
  pub mmax : T (fits binary64 b.mmax)

-- the values are of their types: true of every value of the struct
pub record Typed (h : Header) : Type 0 where
  pub words : SFits w32 h.file_length.0
  pub version : SFits w32 h.version
  pub kind : SFits w32 h.shape_type
  pub bbox : Doubles h.bbox

-- Reading the bytes of a header of a known kind gives the header back exactly where its length is not negative; else it is refused with 3.
pub record ReadsBack : Type 0 where
  pub back : (h : Header) → Typed h → known h.shape_type ≡ true → non_neg h.file_length.0 ≡ true → header_of (bytes_of h) ≡ gives h
  pub refused : (h : Header) → Typed h → non_neg h.file_length.0 ≡ false → header_of (bytes_of h) ≡ wrong_size 24

-- the unused bytes are 0, and a NaN among the eight doubles is the one that is written
pub record Plain (s : List ℕ) : Type 0 where
  pub unused : field 20 4 s ≡ replicate 20 0
  pub doubles : (i : ℕ) → i < 8 → PlainNan (le (field 8 (36 + 8 * i) s))

-- Writing what was read from bytes gives back the first hundred of them exactly where they are plain.
abbrev pub WritesBack : Type 0
WritesBack = (s : List ℕ) (h : Header) → ((i : ℕ) → get_or s i 0 < 256) → header_of s ≡ gives h → (bytes_of h ≡ take 100 s) ↔ Plain s

-- A record's header and an index entry come back as they were written, and are written as they stood in the first eight of the bytes.
pub record EntriesBack : Type 0 where
  pub record_back : (h : RecordHeader) → SFits w32 h.record_number → SFits w32 h.content_length.0 → two_of record_header (record_header_bytes h) ≡ gives h
  pub record_written : (s : List ℕ) (h : RecordHeader) → ((i : ℕ) → get_or s i 0 < 256) → two_of record_header s ≡ gives h → record_header_bytes h ≡ take 8 s
  pub entry_back : (e : ShapeIndex) → SFits w32 e.offset.0 → SFits w32 e.content_length.0 → two_of shape_index (index_entry_bytes e) ≡ gives e
  pub entry_written : (s : List ℕ) (e : ShapeIndex) → ((i : ℕ) → get_or s i 0 < 256) → two_of shape_index s ≡ gives e → index_entry_bytes e ≡ take 8 s
