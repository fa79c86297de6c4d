-- The rules P1 to P17 of document 01, in its order, of two byte strings: the .shp and the .shx. The first fault in record order, then
-- rule order, ends the walk.
use Rattle.std.specs.Prelude.{Bool, true, false, cond, ◌&&◌, ◌||◌, List, [], ◌∷◌, ◌++◌, ℕ, zero, suc, ◌+◌, ◌*◌, ◌-◌, ◌/◌, ◌%◌, ◌^◌, leb, ltb, eqb, pos, length, drop, replicate}
use Rattle.std.proofs.Math.Option.{Option, none, some}
use Rattle.format.specs.declared.kinds.Kind.{Kind}
use Rattle.format.specs.Bytes.{le, be, field}
use Rattle.format.specs.Kinds.{null_kind, kind_at}
use Rattle.format.specs.Lengths.{Form, nothing, one_point, many_points, parts, form_of, several, may_lack_m, front_words, content_words}
use Rattle.format.specs.Numbers.{finite}
use Rattle.format.specs.Order.{first}
use Rattle.format.specs.Said.{Said, gives, fault}
use Rattle.format.specs.Shapes.{there}
use Rattle.format.specs.WellFormed.{has_rings, least_points, same_number}

-- ---- fields of the bytes

-- the bits of an i32 field, high byte first and low byte first, and of a double
abbrev pub big_at : ℕ → List ℕ → ℕ
big_at at s = be (field 4 at s)

abbrev pub little_at : ℕ → List ℕ → ℕ
little_at at s = le (field 4 at s)

abbrev pub double_at : ℕ → List ℕ → ℕ
double_at at s = le (field 8 at s)

-- an i32 with these bits is not negative
abbrev pub held : ℕ → Bool
held bits = ltb bits (2 ^ 31)

unfoldable pub same_bytes : List ℕ → List ℕ → Bool
same_bytes [] [] = true
same_bytes [] (b ∷ t) = false
same_bytes (a ∷ s) [] = false
same_bytes (a ∷ s) (b ∷ t) = eqb a b && same_bytes s t

-- n doubles from a place on are finite
unfoldable pub finites : ℕ → ℕ → List ℕ → Bool
finites zero at s = true
finites (suc n) at s = finite (double_at at s) && finites n (at + 8) s

-- ---- record 0: the headers

-- a kind that is taken, with its form
pub record Taken : Type 0 where
  pub kind : Kind
  pub form : Form

abbrev pub null_taken : Taken
null_taken = record { kind = null_kind; form = nothing }

abbrev pub with_form : Kind → Option Form → Option Taken
with_form k none = none
with_form k (some form) = some (record { kind = k; form = form })

abbrev pub taken_of : Option Kind → Option Taken
taken_of none = none
taken_of (some k) = with_form k (form_of k)

-- the taken kind that the header names, if it does
unfoldable pub taken_in : List ℕ → Option Taken
taken_in shp = taken_of (kind_at (pos (little_at 32 shp)))

abbrev pub P3 : List ℕ → Bool
P3 shp = eqb (big_at 0 shp) 9994 && same_bytes (field 20 4 shp) (replicate 20 0) && eqb (little_at 28 shp) 1000

-- a length field doubled is the byte count
abbrev pub length_right : List ℕ → Bool
length_right s = held (big_at 24 s) && eqb (2 * big_at 24 s) (length s)

abbrev pub P7 : List ℕ → List ℕ → Bool
P7 shp shx = same_bytes (field 24 0 shx) (field 24 0 shp) && same_bytes (field 72 28 shx) (field 72 28 shp)

abbrev pub P8 : List ℕ → Bool
P8 shx = length_right shx && eqb ((length shx - 100) % 8) 0

abbrev pub headers_rules : List ℕ → List ℕ → List (Bool × ℕ)
headers_rules shp shx =
    (leb 100 (length shp), 1)
    ∷ (leb 100 (length shx), 2)
    ∷ (P3 shp, 3)
    ∷ (there (taken_in shp), 4)
    ∷ (length_right shp, 5)
    ∷ (finites 8 36 shp, 6)
    ∷ (P7 shp shx, 7)
    ∷ (P8 shx, 8)
    ∷ []

-- the first of P1 to P8 that the headers break; 0 for none
unfoldable pub headers_fault : List ℕ → List ℕ → ℕ
headers_fault shp shx = first (headers_rules shp shx) 0

-- ---- record k: the bytes from the record on, the index from its entry on, the record's place in bytes

-- the content's length in words, and its counts, where its form has them
abbrev pub words_of : List ℕ → ℕ
words_of l = big_at 4 l

abbrev pub parts_of : Form → List ℕ → ℕ
parts_of nothing l = 0
parts_of one_point l = 0
parts_of many_points l = 0
parts_of parts l = little_at 44 l

abbrev pub points_of : Form → List ℕ → ℕ
points_of nothing l = 0
points_of one_point l = 1
points_of many_points l = little_at 44 l
points_of parts l = little_at 48 l

abbrev pub P9 : List ℕ → ℕ → Bool
P9 l k = leb 8 (length l) && eqb (big_at 0 l) k && held k

abbrev pub P10 : List ℕ → Bool
P10 l = held (words_of l) && leb 2 (words_of l) && leb (8 + 2 * words_of l) (length l)

abbrev pub P11 : List ℕ → List ℕ → ℕ → Bool
P11 l x at = leb 8 (length x) && held (big_at 0 x) && eqb (2 * big_at 0 x) at && eqb (big_at 4 x) (words_of l)

-- the kind is the header's, or Null
abbrev pub P12 : Kind → List ℕ → Bool
P12 k l = eqb (little_at 8 l) k.code || eqb (little_at 8 l) 0

-- what the record's header, its entry and its kind have to meet
abbrev pub head_rules : Kind → List ℕ → List ℕ → ℕ → ℕ → List (Bool × ℕ)
head_rules h l x at k = (P9 l k, 9) ∷ (P10 l, 10) ∷ (P11 l x at, 11) ∷ (P12 h l, 12) ∷ []

-- The kind that the content is judged by is the record's own: Null where its field says 0, else the header's.
abbrev pub own_taken : Taken → List ℕ → Taken
own_taken t l = cond (eqb (little_at 8 l) 0) null_taken t

-- the length where m lacks, and where it is there
abbrev pub length_without : Taken → List ℕ → ℕ
length_without t l = content_words t.form t.kind.z (cond (may_lack_m t.form) false t.kind.m) (parts_of t.form l) (points_of t.form l)

abbrev pub length_with : Taken → List ℕ → ℕ
length_with t l = content_words t.form t.kind.z t.kind.m (parts_of t.form l) (points_of t.form l)

abbrev pub P13 : Taken → List ℕ → Bool
P13 t l =
    held (parts_of t.form l) && held (points_of t.form l) && (eqb (words_of l) (length_without t l) || eqb (words_of l) (length_with t l))

-- r parts are left, the first of them from point cur on; at `at` stands the start of the next one; the last one ends at n
abbrev pub end_of : ℕ → ℕ → List ℕ → ℕ → ℕ
end_of zero at l n = n
end_of (suc r) at l n = little_at at l

-- each has at least so many points
unfoldable pub parts_long : ℕ → ℕ → ℕ → ℕ → ℕ → List ℕ → Bool
parts_long least zero at cur n l = true
parts_long least (suc r) at cur n l = leb (cur + least) (end_of r at l n) && parts_long least r (at + 4) (end_of r at l n) n l

-- point i of the points from a place on
abbrev pub x_of : ℕ → ℕ → List ℕ → ℕ
x_of pts i l = double_at (pts + 16 * i) l

abbrev pub y_of : ℕ → ℕ → List ℕ → ℕ
y_of pts i l = double_at (pts + 16 * i + 8) l

-- the ring from point cur to the one before end is closed
abbrev pub ring_closed : ℕ → ℕ → ℕ → List ℕ → Bool
ring_closed pts cur end l = same_number (x_of pts cur l) (x_of pts (end - 1) l) && same_number (y_of pts cur l) (y_of pts (end - 1) l)

unfoldable pub rings_closed : ℕ → ℕ → ℕ → ℕ → ℕ → List ℕ → Bool
rings_closed pts zero at cur n l = true
rings_closed pts (suc r) at cur n l = ring_closed pts cur (end_of r at l n) l && rings_closed pts r (at + 4) (end_of r at l n) n l

-- where the points stand, behind the record's header and the words in front of them
unfoldable pub pairs_at : Form → List ℕ → ℕ
pairs_at form l = 8 + 2 * front_words form (parts_of form l)

abbrev pub P14 : Taken → List ℕ → Bool
P14 t l = parts_rule t.form
  where
    parts_rule : Form → Bool
    parts_rule nothing = true
    parts_rule one_point = true
    parts_rule many_points = leb 1 (little_at 44 l)
    parts_rule parts =
        leb 1 (little_at 44 l) && eqb (little_at 52 l) 0 && parts_long (least_points t.kind) (little_at 44 l) 56 0 (little_at 48 l) l

abbrev pub P15 : Taken → List ℕ → Bool
P15 t l = cond (has_rings t.kind) (rings_closed (pairs_at t.form l) (little_at 44 l) 56 0 (little_at 48 l) l) true

-- the doubles of the box, where there is one, and those from the points on
abbrev pub box_doubles : Form → ℕ
box_doubles form = cond (several form) 4 0

abbrev pub point_doubles : Form → List ℕ → ℕ
point_doubles form l = (words_of l - front_words form (parts_of form l)) / 4

-- all doubles of the content
abbrev pub P16 : Taken → List ℕ → Bool
P16 t l = finites (box_doubles t.form) 12 l && finites (point_doubles t.form l) (pairs_at t.form l) l

-- what the content has to meet
abbrev pub content_rules : Taken → List ℕ → List (Bool × ℕ)
content_rules t l = (P13 t l, 13) ∷ (P14 t l, 14) ∷ (P15 t l, 15) ∷ (P16 t l, 16) ∷ []

-- the first rule that the record breaks; 0 for none
unfoldable pub record_fault : Taken → List ℕ → List ℕ → ℕ → ℕ → ℕ
record_fault t l x at k = first (head_rules t.kind l x at k ++ content_rules (own_taken t l) l) 0

-- ---- the verdict

-- how many records, parts and points there are
pub record Counts : Type 0 where
  pub records : ℕ
  pub parts : ℕ
  pub points : ℕ

-- P17: at the end of the .shp no index entry is left over
unfoldable pub finish : List ℕ → Counts → Said Counts
finish [] c = gives c
finish (b ∷ x) c = fault 17 (c.records + 1)

abbrev pub or_on : ℕ → ℕ → Said Counts → Said Counts
or_on zero k on = on
or_on (suc rule) k on = fault (suc rule) k

-- the bytes of a record
abbrev pub size : List ℕ → ℕ
size l = 8 + 2 * words_of l

-- The records from here on: `fuel` bounds their number, and `c` counts those behind. While .shp bytes remain there is a record.
unfoldable pub walk : ℕ → Taken → List ℕ → List ℕ → ℕ → Counts → Said Counts
walk zero t l x at c = finish x c
walk (suc fuel) t [] x at c = finish x c
walk (suc fuel) t (b ∷ l) x at c =
    or_on (record_fault t (b ∷ l) x at (c.records + 1)) (c.records + 1)
    (walk fuel t (drop (size (b ∷ l)) (b ∷ l)) (drop 8 x) (at + size (b ∷ l))
    (record {
      records = c.records + 1;
      parts = c.parts + parts_of (own_taken t (b ∷ l)).form (b ∷ l);
      points = c.points + points_of (own_taken t (b ∷ l)).form (b ∷ l);
    }))

-- no walk has more records than bytes
unfoldable pub walk_from : Taken → List ℕ → List ℕ → ℕ → Counts → Said Counts
walk_from t l x at c = walk (length l) t l x at c

abbrev pub none_yet : Counts
none_yet = record { records = 0; parts = 0; points = 0 }

-- behind the headers, where they are fine
abbrev pub records_verdict : Option Taken → List ℕ → List ℕ → Said Counts
records_verdict none shp shx = fault 4 0
records_verdict (some t) shp shx = walk_from t (drop 100 shp) (drop 100 shx) 100 none_yet

unfoldable pub verdict : List ℕ → List ℕ → Said Counts
verdict shp shx = or_on (headers_fault shp shx) 0 (records_verdict (taken_in shp) shp shx)
