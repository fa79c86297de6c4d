-- What the pair checker's answer says of the bytes: with a yes every index entry names its own record; a no names the first fault.
use Rattle.std.specs.Prelude.{◌≡◌, ◌⊎◌, ℕ, ◌+◌, ◌*◌, ◌-◌, ◌≤◌, ◌<◌, length, get_or, drop}
use mathlib.Core.List.{List, ◌++◌, map, flatten}
use Rattle.std.proofs.Math.Option.{some}
use Rattle.format.specs.declared.kinds.Kind.{Kind}
use Rattle.format.specs.Bytes.{field}
use Rattle.format.specs.Encoding.{Box, content, records_from, entries_from, entry_bytes, end_from, HeldFrom}
use Rattle.format.specs.Said.{Said, gives, fault}
use Rattle.format.specs.Shapes.{Shape, null, own_kind}
use Rattle.rules.specs.Meaning.{AllWellFormed, FileOf}
use Rattle.rules.specs.Rules.{Taken, Counts, big_at, taken_in, headers_fault, record_fault}

-- ---- a yes

-- where entry k of the .shx stands, and what it says: the offset and the length in words
abbrev pub entry_at : ℕ → ℕ
entry_at k = 100 + 8 * (k - 1)

abbrev pub offset_of : ℕ → List ℕ → ℕ
offset_of k shx = big_at (entry_at k) shx

abbrev pub extent_of : ℕ → List ℕ → ℕ
extent_of k shx = big_at (entry_at k + 4) shx

-- at that offset of the .shp stands record k, with that length, and both lie within their files
pub record NamesRecord (shp shx : List ℕ) (k : ℕ) : Type 0 where
  pub number : big_at (2 * offset_of k shx) shp ≡ k
  pub extent : big_at (2 * offset_of k shx + 4) shp ≡ extent_of k shx
  pub entry_within : entry_at k + 8 ≤ length shx
  pub record_within : 2 * offset_of k shx + (8 + 2 * extent_of k shx) ≤ length shp

-- and behind its header the content of a shape, by the shape's own kind
abbrev pub HoldsShape : Kind → List ℕ → List ℕ → ℕ → Shape → Type 0
HoldsShape kind shp shx k s = field (2 * extent_of k shx) (2 * offset_of k shx + 8) shp ≡ content (own_kind kind s) s

-- ---- a no

-- r is the first rule that what is left breaks, as record k at a place; or the .shp has ended and an index entry is left over
abbrev pub Why : Taken → List ℕ → List ℕ → ℕ → ℕ → ℕ → Type 0
Why t l x at r k = ((0 < length l) × (0 < r) × (record_fault t l x at k ≡ r)) ⊎ ((length l ≡ 0) × (0 < length x) × (r ≡ 17))

-- the headers have no fault, the records before the k-th are those of well-formed shapes, and the k-th breaks rule r first
pub record Stopped (shp shx : List ℕ) (r k : ℕ) : Type 0 where
  pub taken : Taken
  pub headers : headers_fault shp shx ≡ 0
  pub named : taken_in shp ≡ some taken
  pub shapes : List Shape
  pub rest : List ℕ
  pub left : List ℕ
  pub fine : AllWellFormed taken.kind shapes
  pub held : HeldFrom 1 50 shapes
  pub file : records_from taken.kind 1 shapes ++ rest ≡ drop 100 shp
  pub entries : flatten (map entry_bytes (entries_from 50 shapes)) ++ left ≡ drop 100 shx
  pub number : k ≡ length shapes + 1
  pub why : Why taken rest left (2 * end_from 50 shapes) r k

-- ---- what the answer v says

pub record Says (shp shx : List ℕ) (v : Said Counts) : Type 0 where
  pub entries_name : (c : Counts) → v ≡ gives c → (k : ℕ) → 1 ≤ k → k ≤ c.records → NamesRecord shp shx k
  pub records_hold : (kind : Kind) (box : Box) (ss : List Shape) → FileOf kind box ss shp shx → (k : ℕ) → 1 ≤ k → k ≤ length ss
      → HoldsShape kind shp shx k (get_or ss (k - 1) null)
  pub no_record : (r k : ℕ) → 1 ≤ k → v ≡ fault r k → Stopped shp shx r k
  pub record_no : (r k : ℕ) → Stopped shp shx r k → v ≡ fault r k
  pub no_header : (r : ℕ) → v ≡ fault r 0 → (0 < r) × (headers_fault shp shx ≡ r)
  pub header_no : (r : ℕ) → 0 < r → headers_fault shp shx ≡ r → v ≡ fault r 0
