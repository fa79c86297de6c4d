-- What reading gives for the paper's encoding of a shape: that shape, m raised.
use Rattle.std.specs.Prelude.{◌≡◌, Bool, true, false, ℕ, ◌+◌, ◌*◌, ◌-◌, ◌^◌, ◌≤◌, ◌<◌, Float, pos, length, get_or, drop, None}
use mathlib.Core.List.{List, [], map, flatten}
use Rattle.std.proofs.Math.Option.{Option, none, some}
use Rattle.std.specs.Float.{binary64}
use Rattle.std.specs.Float.Ieee.{of_bits, of_int}
use Rattle.format.specs.declared.kinds.Kind.{Kind}
use Rattle.format.specs.declared.units.Bytes.{Bytes}
use Rattle.format.specs.Bytes.{field}
use Rattle.format.specs.Encoding.{Box, content, shape_words}
use Rattle.format.specs.Kinds.{kind_at}
use Rattle.format.specs.Said.{gives}
use Rattle.format.specs.Shapes.{Point, BoxXY, Measure, Shape, null, point, multipoint, parted, there, OfKind, own_kind}
use Rattle.multipart.specs.declared.Body.{Body}
use Rattle.multipart.specs.declared.Range.{Range}
use Rattle.multipart.specs.Body.{no_range, raised, counts_in, x_in, y_in, z_in, m_in}
use Rattle.rules.specs.Meaning.{TakenKind, FileOf}
use Rattle.meaning.specs.Consequences.{offset_of, extent_of}
use Rattle.record.specs.Reading.{Shaped, null_shape, point_shape, multipoint_shape, parts_shape, code_in, record_of}
use Rattle.readback.specs.Held.{Held}

-- the double with these bits
abbrev pub value : ℕ → Float
value d = of_bits binary64 d

abbrev pub value_or : Option ℕ → Float
value_or none = of_int binary64 (pos 0)
value_or (some d) = value d

abbrev pub range_of : Option Measure → Range
range_of none = no_range
range_of (some r) = record { low = value r.low; high = value r.high }

-- what several points in p parts are to a reader: the answer, and what goes into each store
abbrev pub body_as : ℕ → BoxXY → List Point → Option Measure → Option Measure → Body
body_as p b ps z m =
    record {
      bbox = record { xmin = value b.xmin; ymin = value b.ymin; xmax = value b.xmax; ymax = value b.ymax };
      z_range = range_of z;
      m_range = range_of m;
      parts = p;
      points = length ps;
    }

abbrev pub shaped_as : Kind → Shape → Shaped
shaped_as k null = null_shape
shaped_as k (point xy z m) = point_shape (pos k.code) (record { x = value xy.x; y = value xy.y; z = value_or z; m = value_or m })
shaped_as k (multipoint s) = multipoint_shape (pos k.code) (there s.m) (body_as 0 s.box s.points s.z s.m)
shaped_as k (parted s) = parts_shape (pos k.code) (there s.m) (body_as (length s.parts) s.box (flatten s.parts) s.z s.m)

abbrev pub xs_of : List Point → List Float
xs_of ps = map (λ (p : Point). value p.x) ps

abbrev pub ys_of : List Point → List Float
ys_of ps = map (λ (p : Point). value p.y) ps

abbrev pub values_of : Option Measure → List Float
values_of none = []
values_of (some r) = map value r.values

-- the stores have room for p parts and n points
abbrev pub RoomFor : ℕ → ℕ → Option Measure → Option Measure → ℕ → ℕ → ℕ → ℕ → ℕ → Type 0
RoomFor p n z m counts xs ys zs ms = (p ≤ counts) × (n ≤ xs) × (n ≤ ys) × (there z ≡ true → n ≤ zs) × (there m ≡ true → n ≤ ms)

-- and for the shape
abbrev pub Roomy : Shape → ℕ → ℕ → ℕ → ℕ → ℕ → Type 0
Roomy null counts xs ys zs ms = Unit {0}
Roomy (point p z m) counts xs ys zs ms = Unit {0}
Roomy (multipoint s) counts xs ys zs ms = RoomFor 0 (length s.points) s.z s.m counts xs ys zs ms
Roomy (parted s) counts xs ys zs ms = RoomFor (length s.parts) (length (flatten s.parts)) s.z s.m counts xs ys zs ms

-- what the stores get of several points, by the content: the count of each part, x, y, z, and m raised
abbrev pub StoresPoints : Bool → List ℕ → List Point → Option Measure → Option Measure → List ℕ → Type 0
StoresPoints parts counts ps z m bytes =
    (counts_in parts (drop 4 bytes) ≡ counts)
    × (x_in parts (drop 4 bytes) ≡ xs_of ps)
    × (y_in parts (drop 4 bytes) ≡ ys_of ps)
    × (z_in parts (there z) (drop 4 bytes) ≡ values_of z)
    × (m_in parts (there z) (there m) (drop 4 bytes) ≡ map raised (values_of m))

-- and of the shape: a multipoint has no part
abbrev pub StoresShape : Shape → List ℕ → Type 0
StoresShape null bytes = Unit {0}
StoresShape (point p z m) bytes = Unit {0}
StoresShape (multipoint s) bytes = StoresPoints false [] s.points s.z s.m bytes
StoresShape (parted s) bytes = StoresPoints true (map length s.parts) (flatten s.parts) s.z s.m bytes

-- Reading these bytes with this size and no wanted kind finds the kind and gives the shape, where the stores have room for it.
pub record ReadsShape (k : Kind) (s : Shape) (size : Bytes) (bytes : List ℕ) : Type 0 where
  pub kind_is : kind_at (code_in bytes) ≡ some k
  pub answer : (counts xs ys zs ms : ℕ) → Roomy s counts xs ys zs ms → record_of None size bytes counts xs ys zs ms ≡ gives (shaped_as k s)
  pub stores : StoresShape s bytes

-- ---- the encoding of a shape of a taken kind, whose doubles have 64 bits each, as a well-formed one has, and whose content has at most 2,147,483,647 bytes

abbrev pub Small : Shape → Type 0
Small s = 2 * shape_words s < 2 ^ 31

abbrev pub size : Shape → Bytes
size s = record { 0 = pos (2 * shape_words s) }

abbrev pub StoresBack : Type 0
StoresBack = (k : Kind) (s : Shape) → OfKind k s → Held s → Small s → StoresShape s (content k s)

abbrev pub ReadsBack : Type 0
ReadsBack = (k : Kind) (s : Shape) → TakenKind k → OfKind k s → Held s → Small s → ReadsShape k s (size s) (content k s)

-- ---- an accepted pair: record k stands where index entry k says, and has that length

abbrev pub size_at : ℕ → List ℕ → Bytes
size_at k shx = record { 0 = pos (2 * extent_of k shx) }

abbrev pub content_at : ℕ → List ℕ → List ℕ → List ℕ
content_at k shp shx = field (2 * extent_of k shx) (2 * offset_of k shx + 8) shp

abbrev pub ReadsRecords : Type 0
ReadsRecords =
    (kind : Kind) (box : Box) (ss : List Shape) (shp shx : List ℕ) → FileOf kind box ss shp shx → (k : ℕ) → 1 ≤ k → k ≤ length ss
    → let s = get_or ss (k - 1) null in Small s → ReadsShape (own_kind kind s) s (size_at k shx) (content_at k shp shx)
