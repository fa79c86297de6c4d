-- What the definitions of specs/ say, case by case: the crates above cite these equations and do not unfold a definition.
use mathlib.Core.Path.{◌≡◌, refl}
use mathlib.Core.Bool.{Bool, cond, ◌||◌}
use mathlib.Core.List.{List, [], ◌∷◌, ◌++◌, map, flatten}
use mathlib.Core.Option.{Option}
use Prim.Native.Nat.{ℕ, suc, ◌+◌, ◌*◌, ◌/◌, ◌%◌}
use lib.Dec.{eqb}
use lib.Ieee.{Float, binary64, of_bits, to_bits}
use lib.IntN.{ℤ}
use lib.ListN.{length, take, drop}
use mir.Syntax.{w32}
use mir.Val.{to_z, of_z}
use Rattle.format.specs.declared.kinds.Kind.{Kind}
use Rattle.format.specs.Bytes.{le, be, le_bytes, be_bytes, field}
use Rattle.format.specs.Encoding.{Box, doubles, point_bytes, box_bytes, starts_from, value_bytes, measure_bytes, points_bytes, multipoint_bytes, parts_bytes, shape_bytes, content, shape_words, two_big, record_bytes, records_from, entry_bytes, entries_from, header_fields, header_bytes, end_from, shp_bytes, shx_bytes}
use Rattle.format.specs.Lengths.{Form, one_point, many_points, given, fixed_words, point_words, front_words, content_words}
use Rattle.format.specs.Lengths
use Rattle.format.specs.Numbers.{big, little, double, be_i32, le_i32, le_f64, i32_be, i32_le, f64_le, f64s_le}
use Rattle.format.specs.Shapes.{Point, BoxXY, Measure, Multipoint, Parts, Shape, null, point, multipoint, parted, there, parts_in, points_in, own_kind}
use Rattle.format.specs.WellFormed.{has_rings, least_points}

-- ---- bytes

pub field_is : (n at : ℕ) (s : List ℕ) → field n at s ≡ take n (drop at s)
unfolding field
field_is n at s = refl

pub le_bytes_zero : (x : ℕ) → le_bytes 0 x ≡ []
unfolding le_bytes
le_bytes_zero x = refl

pub le_bytes_suc : (n x : ℕ) → le_bytes (suc n) x ≡ x % 256 ∷ le_bytes n (x / 256)
unfolding le_bytes
le_bytes_suc n x = refl

pub be_bytes-zero : (x : ℕ) → be_bytes 0 x ≡ []
unfolding be_bytes le_bytes
be_bytes-zero x = refl

-- ---- numbers

pub big-is : (n : ℕ) → big n ≡ be_bytes 4 n
unfolding big
big-is n = refl

pub little-is : (n : ℕ) → little n ≡ le_bytes 4 n
unfolding little
little-is n = refl

pub double-is : (d : ℕ) → double d ≡ le_bytes 8 d
unfolding double
double-is d = refl

pub be_i32-is : (at : ℕ) (s : List ℕ) → be_i32 at s ≡ to_z w32 (be (field 4 at s))
unfolding be_i32
be_i32-is at s = refl

pub le_i32-is : (at : ℕ) (s : List ℕ) → le_i32 at s ≡ to_z w32 (le (field 4 at s))
unfolding le_i32
le_i32-is at s = refl

pub le_f64-is : (at : ℕ) (s : List ℕ) → le_f64 at s ≡ of_bits binary64 (le (field 8 at s))
unfolding le_f64
le_f64-is at s = refl

pub i32_be-is : (z : ℤ) → i32_be z ≡ big (of_z w32 z)
unfolding i32_be
i32_be-is z = refl

pub i32_le-is : (z : ℤ) → i32_le z ≡ little (of_z w32 z)
unfolding i32_le
i32_le-is z = refl

pub f64_le-is : (x : Float) → f64_le x ≡ double (to_bits binary64 x)
unfolding f64_le
f64_le-is x = refl

pub f64s_le-nil : f64s_le [] ≡ []
unfolding f64s_le flatten
f64s_le-nil = refl

pub f64s_le-cons : (x : Float) (xs : List Float) → f64s_le (x ∷ xs) ≡ f64_le x ++ f64s_le xs
unfolding f64s_le flatten
f64s_le-cons x xs = refl

-- ---- kinds and lengths

pub words_are : (f : Form) (z m : Bool) (p n : ℕ) → content_words f z m p n ≡ fixed_words f z m + 2 * p + point_words f z m * n
unfolding content_words
words_are f z m p n = refl

pub fixed_point : (z m : Bool) → fixed_words one_point z m ≡ 10 + given z 4 + given m 4
unfolding fixed_words
fixed_point z m = refl

pub each_point : (z m : Bool) → point_words one_point z m ≡ 0
unfolding point_words
each_point z m = refl

pub front-null : (p : ℕ) → front_words Lengths.nothing p ≡ 2
unfolding front_words
front-null p = refl

pub front-point : (p : ℕ) → front_words one_point p ≡ 2
unfolding front_words
front-point p = refl

pub front_many : (p : ℕ) → front_words many_points p ≡ 20
unfolding front_words
front_many p = refl

pub front-parts : (p : ℕ) → front_words Lengths.parts p ≡ 22 + 2 * p
unfolding front_words
front-parts p = refl

-- ---- counts, and what a shape's parts are

pub parts-null : parts_in null ≡ 0
unfolding parts_in
parts-null = refl

pub parts-point : (xy : Point) (z m : Option ℕ) → parts_in (point xy z m) ≡ 0
unfolding parts_in
parts-point xy z m = refl

pub parts-multipoint : (s : Multipoint) → parts_in (multipoint s) ≡ 0
unfolding parts_in
parts-multipoint s = refl

pub parts-parted : (s : Parts) → parts_in (parted s) ≡ length s.parts
unfolding parts_in
parts-parted s = refl

pub points-null : points_in null ≡ 0
unfolding points_in
points-null = refl

pub points-point : (xy : Point) (z m : Option ℕ) → points_in (point xy z m) ≡ 1
unfolding points_in
points-point xy z m = refl

pub points-multipoint : (s : Multipoint) → points_in (multipoint s) ≡ length s.points
unfolding points_in
points-multipoint s = refl

pub points-parted : (s : Parts) → points_in (parted s) ≡ length (flatten s.parts)
unfolding points_in
points-parted s = refl

pub rings_is : (k : Kind) → has_rings k ≡ (eqb k.code 5 || eqb k.code 15 || eqb k.code 25)
unfolding has_rings
rings_is k = refl

pub least-is : (k : Kind) → least_points k ≡ cond (has_rings k) 4 2
unfolding least_points
least-is k = refl

-- ---- the encoding of a shape

pub point_bytes-is : (p : Point) → point_bytes p ≡ double p.x ++ double p.y
unfolding point_bytes
point_bytes-is p = refl

pub box_bytes-is : (b : BoxXY) → box_bytes b ≡ doubles (b.xmin ∷ b.ymin ∷ b.xmax ∷ b.ymax ∷ [])
unfolding box_bytes
box_bytes-is b = refl

pub starts_from-nil : (a : ℕ) → starts_from a [] ≡ []
unfolding starts_from
starts_from-nil a = refl

pub starts_from-cons : (a : ℕ) (part : List Point) (parts : List (List Point)) → starts_from a (part ∷ parts) ≡ a ∷ starts_from (a + length part) parts
unfolding starts_from
starts_from-cons a part parts = refl

pub points_bytes-is : (ps : List Point) (z m : Option Measure) → points_bytes ps z m ≡ flatten (map point_bytes ps) ++ (measure_bytes z ++ measure_bytes m)
unfolding points_bytes
points_bytes-is ps z m = refl

pub multipoint_bytes-is : (s : Multipoint) → multipoint_bytes s ≡ box_bytes s.box ++ (little (length s.points) ++ points_bytes s.points s.z s.m)
unfolding multipoint_bytes
multipoint_bytes-is s = refl

pub parts_bytes-is : (s : Parts)
    → parts_bytes s
    ≡ box_bytes s.box
    ++ (little (length s.parts)
    ++ (little (length (flatten s.parts))
    ++ (flatten (map little (starts_from 0 s.parts))
    ++ points_bytes (flatten s.parts) s.z s.m)))
unfolding parts_bytes
parts_bytes-is s = refl

pub shape-null : shape_bytes null ≡ []
unfolding shape_bytes
shape-null = refl

pub shape-point : (xy : Point) (z m : Option ℕ) → shape_bytes (point xy z m) ≡ point_bytes xy ++ (value_bytes z ++ value_bytes m)
unfolding shape_bytes
shape-point xy z m = refl

pub shape-multipoint : (s : Multipoint) → shape_bytes (multipoint s) ≡ multipoint_bytes s
unfolding shape_bytes
shape-multipoint s = refl

pub shape-parted : (s : Parts) → shape_bytes (parted s) ≡ parts_bytes s
unfolding shape_bytes
shape-parted s = refl

pub content-bytes : (k : Kind) (s : Shape) → content k s ≡ little k.code ++ shape_bytes s
unfolding content
content-bytes k s = refl

pub words-point : (xy : Point) (z m : Option ℕ) → shape_words (point xy z m) ≡ content_words one_point (there z) (there m) 0 1
unfolding shape_words
words-point xy z m = refl

pub words-multipoint : (s : Multipoint) → shape_words (multipoint s) ≡ content_words many_points (there s.z) (there s.m) 0 (length s.points)
unfolding shape_words
words-multipoint s = refl

pub words-parted : (s : Parts) → shape_words (parted s) ≡ content_words Lengths.parts (there s.z) (there s.m) (length s.parts) (length (flatten s.parts))
unfolding shape_words
words-parted s = refl

-- ---- and of records, entries, headers and files

pub record_is : (k : Kind) (n : ℕ) (s : Shape) → record_bytes k n s ≡ two_big n (shape_words s) ++ content k s
unfolding record_bytes
record_is k n s = refl

pub records-nil : (k : Kind) (n : ℕ) → records_from k n [] ≡ []
unfolding records_from
records-nil k n = refl

pub records-cons : (k : Kind) (n : ℕ) (s : Shape) (ss : List Shape) → records_from k n (s ∷ ss) ≡ record_bytes (own_kind k s) n s ++ records_from k (n + 1) ss
unfolding records_from
records-cons k n s ss = refl

pub end_nil : (w : ℕ) → end_from w [] ≡ w
unfolding end_from
end_nil w = refl

pub end_cons : (w : ℕ) (s : Shape) (ss : List Shape) → end_from w (s ∷ ss) ≡ end_from (w + (4 + shape_words s)) ss
unfolding end_from
end_cons w s ss = refl

pub header_is : (words version code : ℕ) (box : Box) → header_bytes words version code box ≡ flatten (header_fields words version code box)
unfolding header_bytes
header_is words version code box = refl

pub shp_is : (k : Kind) (box : Box) (ss : List Shape) → shp_bytes k box ss ≡ header_bytes (end_from 50 ss) 1000 k.code box ++ records_from k 1 ss
unfolding shp_bytes
shp_is k box ss = refl

pub shx_is : (k : Kind) (box : Box) (ss : List Shape) → shx_bytes k box ss ≡ header_bytes (50 + 4 * length ss) 1000 k.code box ++ flatten (map entry_bytes (entries_from 50 ss))
unfolding shx_bytes
shx_is k box ss = refl
