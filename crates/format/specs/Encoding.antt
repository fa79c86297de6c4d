-- What ESRI's paper makes of shapes: the bytes of a shape, a record, an index entry, a header and a pair of files.
use Rattle.std.specs.Prelude.{◌≡◌, false, ℕ, ◌+◌, ◌*◌, ◌^◌, ◌<◌, length, replicate}
use mathlib.Core.List.{List, [], ◌∷◌, ◌++◌, map, flatten}
use Rattle.std.proofs.Math.Option.{Option, none, some}
use Rattle.format.specs.declared.kinds.Kind.{Kind}
use Rattle.format.specs.Lengths.{nothing, one_point, many_points, content_words}
use Rattle.format.specs.Lengths
use Rattle.format.specs.Numbers.{big, little, double}
use Rattle.format.specs.Shapes.{Point, BoxXY, Measure, Multipoint, Parts, Shape, null, point, multipoint, parted, parts_in, points_in, there, own_kind}

-- ---- a shape's content

unfoldable pub doubles : List ℕ → List ℕ
doubles ds = flatten (map double ds)

unfoldable pub point_bytes : Point → List ℕ
point_bytes p = double p.x ++ double p.y

unfoldable pub box_bytes : BoxXY → List ℕ
box_bytes b = doubles (b.xmin ∷ b.ymin ∷ b.xmax ∷ b.ymax ∷ [])

-- where each part starts, the first of them at a: the number of the points before it
unfoldable pub starts_from : ℕ → List (List Point) → List ℕ
starts_from a [] = []
starts_from a (part ∷ parts) = a ∷ starts_from (a + length part) parts

abbrev pub value_bytes : Option ℕ → List ℕ
value_bytes none = []
value_bytes (some d) = double d

abbrev pub measure_bytes : Option Measure → List ℕ
measure_bytes none = []
measure_bytes (some r) = double r.low ++ (double r.high ++ doubles r.values)

-- the points, then z, then m
unfoldable pub points_bytes : List Point → Option Measure → Option Measure → List ℕ
points_bytes ps z m = flatten (map point_bytes ps) ++ (measure_bytes z ++ measure_bytes m)

unfoldable pub multipoint_bytes : Multipoint → List ℕ
multipoint_bytes s = box_bytes s.box ++ (little (length s.points) ++ points_bytes s.points s.z s.m)

unfoldable pub parts_bytes : Parts → List ℕ
parts_bytes s =
    box_bytes s.box
    ++ (little (length s.parts)
    ++ (little (length (flatten s.parts))
    ++ (flatten (map little (starts_from 0 s.parts))
    ++ points_bytes (flatten s.parts) s.z s.m)))

-- what follows the kind's field
unfoldable pub shape_bytes : Shape → List ℕ
shape_bytes null = []
shape_bytes (point xy z m) = point_bytes xy ++ (value_bytes z ++ value_bytes m)
shape_bytes (multipoint s) = multipoint_bytes s
shape_bytes (parted s) = parts_bytes s

unfoldable pub content : Kind → Shape → List ℕ
content k s = little k.code ++ shape_bytes s

-- its length in words
unfoldable pub shape_words : Shape → ℕ
shape_words null = content_words nothing false false 0 0
shape_words (point xy z m) = content_words one_point (there z) (there m) 0 1
shape_words (multipoint s) = content_words many_points (there s.z) (there s.m) 0 (length s.points)
shape_words (parted s) = content_words Lengths.parts (there s.z) (there s.m) (length s.parts) (length (flatten s.parts))

-- ---- records and index entries

-- a record's header, its number and its content's length, and an index entry, the record's offset and the same length, are two big numbers
unfoldable pub two_big : ℕ → ℕ → List ℕ
two_big a b = big a ++ big b

-- record number n
unfoldable pub record_bytes : Kind → ℕ → Shape → List ℕ
record_bytes k n s = two_big n (shape_words s) ++ content k s

pub record Entry : Type 0 where
  pub offset : ℕ
  pub words : ℕ

abbrev pub entry_bytes : Entry → List ℕ
entry_bytes e = two_big e.offset e.words

-- the records of a file of kind k, numbered from n; each is of its shape's own kind
unfoldable pub records_from : Kind → ℕ → List Shape → List ℕ
records_from k n [] = []
records_from k n (s ∷ ss) = record_bytes (own_kind k s) n s ++ records_from k (n + 1) ss

-- their entries, where the first record stands at word w: a record's header takes 4 words
unfoldable pub entries_from : ℕ → List Shape → List Entry
entries_from w [] = []
entries_from w (s ∷ ss) = record { offset = w; words = shape_words s } ∷ entries_from (w + (4 + shape_words s)) ss

-- ---- headers

-- the header's box: eight doubles, by their bits
pub record Box : Type 0 where
  pub xmin : ℕ
  pub ymin : ℕ
  pub xmax : ℕ
  pub ymax : ℕ
  pub zmin : ℕ
  pub zmax : ℕ
  pub mmin : ℕ
  pub mmax : ℕ

abbrev pub box_doubles : Box → List ℕ
box_doubles b =
    b.xmin ∷ b.ymin ∷ b.xmax ∷ b.ymax ∷ b.zmin ∷ b.zmax ∷ b.mmin ∷ b.mmax ∷ []

-- the header's fields in file order: the code, twenty unused bytes, the length in words, the version, the kind and the box
abbrev pub header_fields : ℕ → ℕ → ℕ → Box → List (List ℕ)
header_fields words version code box =
    big 9994 ∷ replicate 20 0 ∷ big words ∷ little version ∷ little code ∷ map double (box_doubles box)

unfoldable pub header_bytes : ℕ → ℕ → ℕ → Box → List ℕ
header_bytes words version code box = flatten (header_fields words version code box)

-- ---- a pair of files

-- the word after the last of the records, where the first of them stands at word w
unfoldable pub end_from : ℕ → List Shape → ℕ
end_from w [] = w
end_from w (s ∷ ss) = end_from (w + (4 + shape_words s)) ss

-- the .shp and the .shx of a file of kind k with these shapes
unfoldable pub shp_bytes : Kind → Box → List Shape → List ℕ
shp_bytes k box ss = header_bytes (end_from 50 ss) 1000 k.code box ++ records_from k 1 ss

unfoldable pub shx_bytes : Kind → Box → List Shape → List ℕ
shx_bytes k box ss = header_bytes (50 + 4 * length ss) 1000 k.code box ++ flatten (map entry_bytes (entries_from 50 ss))

-- an i32 field holds the number
abbrev pub Held : ℕ → Type 0
Held n = n < 2 ^ 31

-- every number of the records from number n and word w on
abbrev pub HeldFrom : ℕ → ℕ → List Shape → Type 0
HeldFrom n w [] = Unit {0}
HeldFrom n w (s ∷ ss) =
    Held n × Held w × Held (shape_words s) × Held (parts_in s) × Held (points_in s) × HeldFrom (n + 1) (w + (4 + shape_words s)) ss

-- the two files are the encoding of these shapes; a list with a number that its i32 field cannot hold has none
pub record IsPair (k : Kind) (box : Box) (ss : List Shape) (shp shx : List ℕ) : Type 0 where
  pub shp_is : shp_bytes k box ss ≡ shp
  pub shx_is : shx_bytes k box ss ≡ shx
  pub shp_held : Held (end_from 50 ss)
  pub shx_held : Held (50 + 4 * length ss)
  pub held : HeldFrom 1 50 ss
