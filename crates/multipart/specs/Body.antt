-- Reading a body of several points with given flags, in parts or as a multipoint, with z or m or without: what it holds, and the tests in the order
-- in which document 01 judges them.
use Rattle.std.specs.Prelude.{Bool, true, false, cond, ◌&&◌, ◌||◌, not, List, [], ◌∷◌, ◌++◌, map, ℕ, ◌+◌, ◌*◌, leb, ltb, Float, ℤ, pos, nat_abs}
use Rattle.std.specs.Float.{binary64}
use Rattle.std.specs.Float.Ieee.{of_int, lt, of_bits}
use Rattle.std.specs.Int.Signed.{non_neg}
use Rattle.format.specs.Numbers.{le_i32, le_f64, doubles_at}
use Rattle.format.specs.Order.{first, field_at, fields_from}
use Rattle.format.specs.Said.{Said, gives, short, wrong_size, room}
use Rattle.format.specs.Shapes.{sum}
use Rattle.multipart.specs.declared.Range.{Range}
use Rattle.multipart.specs.declared.Body.{Body}
use Rattle.multipart.specs.Parts.{is_count, count_of, differences, starts_at}

-- ---- what stands where: the box at 0, then with parts p at 32, n at 36 and the starts at 40, else n at 32; then the pairs, z and m

-- a multipoint has no parts
abbrev pub parts_in : Bool → List ℕ → ℕ
parts_in parts s = cond parts (nat_abs (le_i32 32 s)) 0

abbrev pub number_at : Bool → ℕ
number_at parts = cond parts 36 32

-- the difference of each part
abbrev pub differences_in : Bool → List ℕ → List ℤ
differences_in parts s = differences (starts_at (parts_in parts s) 40 s) (le_i32 (number_at parts) s)

-- one count of points for each part
unfoldable pub counts_in : Bool → List ℕ → List ℕ
counts_in parts s = map count_of (differences_in parts s)

-- the points that are read: of parts the sum of their counts, which need not be n
unfoldable pub points_in : Bool → List ℕ → ℕ
points_in parts s = cond parts (sum (counts_in parts s)) (nat_abs (le_i32 (number_at parts) s))

unfoldable pub pairs_at : Bool → List ℕ → ℕ
pairs_at parts s = number_at parts + 4 + 4 * parts_in parts s

unfoldable pub z_at : Bool → List ℕ → ℕ
z_at parts s = pairs_at parts s + 16 * points_in parts s

-- behind z, where that is read
unfoldable pub m_at : Bool → Bool → List ℕ → ℕ
m_at parts z s = z_at parts s + cond z (16 + 8 * points_in parts s) 0

-- how wide the field at a place is: p, n and each start have four bytes, and a double eight
abbrev pub body_width : Bool → List ℕ → ℕ → ℕ
body_width parts s at = cond (leb 32 at && ltb at (pairs_at parts s)) 4 8

-- ---- the values

-- -10e38, which is -10^39
unfoldable pub no_data : Float
no_data = of_bits binary64 0xc807_8287_f49c_4a1d

-- an m value is the larger of itself and -10e38, and a NaN becomes -10e38
unfoldable pub raised : Float → Float
raised x = cond (lt no_data x) x no_data

abbrev pub range_at : ℕ → List ℕ → Range
range_at at s = record { low = le_f64 at s; high = le_f64 (at + 8) s }

-- zeros for a range that is not read
abbrev pub no_range : Range
no_range = record { low = of_int binary64 (pos 0); high = of_int binary64 (pos 0) }

-- a pair is a point's x and then its y: the x of each point that is read, and the y
unfoldable pub x_in : Bool → List ℕ → List Float
x_in parts s = doubles_at 16 (points_in parts s) (pairs_at parts s) s

unfoldable pub y_in : Bool → List ℕ → List Float
y_in parts s = doubles_at 16 (points_in parts s) (pairs_at parts s + 8) s

unfoldable pub z_in : Bool → Bool → List ℕ → List Float
z_in parts z s = cond z (doubles_at 8 (points_in parts s) (z_at parts s + 16) s) []

unfoldable pub m_in : Bool → Bool → Bool → List ℕ → List Float
m_in parts z m s = cond m (map raised (doubles_at 8 (points_in parts s) (m_at parts z s + 16) s)) []

unfoldable pub body_in : Bool → Bool → Bool → List ℕ → Body
body_in parts z m s =
    record {
      bbox = record { xmin = le_f64 0 s; ymin = le_f64 8 s; xmax = le_f64 16 s; ymax = le_f64 24 s };
      z_range = cond z (range_at (z_at parts s) s) no_range;
      m_range = cond m (range_at (m_at parts z s) s) no_range;
      parts = parts_in parts s;
      points = points_in parts s;
    }

-- ---- the tests

-- p parts and n points fit into the used stores, which have these lengths: x and y hold n each
abbrev pub has_room : Bool → Bool → ℕ → ℕ → ℕ → ℕ → ℕ → ℕ → ℕ → Bool
has_room z m p n counts xs ys zs ms = leb p counts && leb n xs && leb n ys && (not z || leb n zs) && (not m || leb n ms)

module _ {A : Type 0} where
  -- box xy, then p and n, or n alone; then 3 if p is negative, else if n is
  abbrev pub count_tests : Bool → List ℕ → List (Bool × Said A)
  count_tests parts s =
      fields_from 8 4 0 s short
      ++ (field_at 4 32 s short
      ∷ cond parts (field_at 4 36 s short ∷ (non_neg (le_i32 32 s), wrong_size 32) ∷ (non_neg (le_i32 36 s), wrong_size 36) ∷ [])
      ((non_neg (le_i32 32 s), wrong_size 32) ∷ []))

  -- each part in turn: its difference, named by the place of its start, then so many pairs from where the last one ended
  unfoldable pub part_tests : ℕ → ℕ → List ℤ → List ℕ → List (Bool × Said A)
  part_tests start at [] s = []
  part_tests start at (d ∷ ds) s =
      (is_count d, wrong_size start) ∷ (fields_from 8 (2 * count_of d) at s short ++ part_tests (start + 4) (at + 16 * count_of d) ds s)

  -- a range and a value for each point, where the flag is set
  abbrev pub measure_tests : Bool → ℕ → ℕ → List ℕ → List (Bool × Said A)
  measure_tests flag n at s = cond flag (fields_from 8 (2 + n) at s short) []

  -- the starts and the parts; of a multipoint its n pairs
  abbrev pub pair_tests : Bool → List ℕ → List (Bool × Said A)
  pair_tests true s = fields_from 4 (parts_in true s) 40 s short ++ part_tests 40 (pairs_at true s) (differences_in true s) s
  pair_tests false s = fields_from 8 (2 * points_in false s) (pairs_at false s) s short

  -- then z and m
  abbrev pub rest_tests : Bool → Bool → Bool → List ℕ → List (Bool × Said A)
  rest_tests parts z m s =
      pair_tests parts s
      ++ (measure_tests z (points_in parts s) (z_at parts s) s
      ++ measure_tests m (points_in parts s) (m_at parts z s) s)

  -- room is judged last
  abbrev pub room_tests : Bool → Bool → Bool → List ℕ → ℕ → ℕ → ℕ → ℕ → ℕ → List (Bool × Said A)
  room_tests parts z m s counts xs ys zs ms =
      (has_room z m (parts_in parts s) (points_in parts s) counts xs ys zs ms, room (parts_in parts s) (points_in parts s)) ∷ []

-- what reading a body says, with stores of these lengths
unfoldable pub body_of : Bool → Bool → Bool → List ℕ → ℕ → ℕ → ℕ → ℕ → ℕ → Said Body
body_of parts z m s counts xs ys zs ms =
    first (count_tests parts s ++ (rest_tests parts z m s ++ room_tests parts z m s counts xs ys zs ms)) (gives (body_in parts z m s))
