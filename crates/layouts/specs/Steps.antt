-- What the steps of writing a body come to, of the tables as the code has them: the private functions cite these.
use Rattle.std.specs.Prelude.{◌≡◌, Bool, true, false, cond, ◌||◌, ℕ, ◌+◌, ◌*◌, ◌^◌, ◌≤◌, ◌<◌, eqb, Float, length}
use mathlib.Core.List.{List, [], ◌∷◌, ◌++◌, map, flatten}
use Rattle.format.specs.Encoding.{point_bytes}
use Rattle.format.specs.Numbers.{little, f64s_le}
use Rattle.format.specs.declared.shapes.Layout.{Layout}
use Rattle.format.specs.declared.shapes.Tables.{Tables}
use Rattle.header.specs.declared.bbox.BBoxZ.{BBoxZ}
use Rattle.layouts.specs.Answers.{lent_size}
use Rattle.layouts.specs.Tables.{points_of, points_lent}

-- the bytes of a range and n values, where the layout has them
abbrev pub measure_size : Bool → ℕ → ℕ
measure_size flag n = cond flag (16 + 8 * n) 0

-- the starts of parts with these counts, the first of them at a
unfoldable pub starts_bytes : ℕ → List ℕ → List ℕ
starts_bytes a [] = []
starts_bytes a (n ∷ ns) = little a ++ starts_bytes (a + n) ns

abbrev pub corners : BBoxZ → List Float
corners b = b.xmin ∷ b.ymin ∷ b.xmax ∷ b.ymax ∷ []

-- the counts and starts, of n points; a multipoint has n alone
unfoldable pub counts_bytes : Bool → List ℕ → ℕ → List ℕ
counts_bytes true counts n = little (length counts) ++ (little n ++ starts_bytes 0 counts)
counts_bytes false counts n = little n

-- the box in front of them
unfoldable pub front_bytes : Bool → BBoxZ → List ℕ → ℕ → List ℕ
front_bytes parts b counts n = f64s_le (corners b) ++ counts_bytes parts counts n

-- and the bytes that they take, with p parts
abbrev pub front_size : Bool → ℕ → ℕ
front_size parts p = cond parts (40 + 4 * p) 36

-- x and y of each point in turn
abbrev pub pairs_bytes : List Float → List Float → List ℕ
pairs_bytes xs ys = flatten (map point_bytes (points_of xs ys))

-- the tables agree on n points
pub record Agreed (z m : Bool) (n : ℕ) (xs ys zs ms : List Float) : Type 0 where
  pub xs_has : length xs ≡ n
  pub ys_has : length ys ≡ n
  pub zs_has : length zs ≡ cond z n 0
  pub ms_has : length ms ≡ cond m n 0

-- and an i32 holds the points, and there is room for the body
pub record Placed (parts z m : Bool) (counts : List ℕ) (xs ys zs ms : List Float) (room : ℕ) : Type 0 where
  pub counts_fit : (parts || eqb (length counts) 0) ≡ true
  pub agreed : Agreed z m (points_lent parts counts xs) xs ys zs ms
  pub held : points_lent parts counts xs < 2 ^ 31
  pub fits : lent_size parts z m counts xs ≤ room

-- the same of tables that are lent together
abbrev pub PlacedLent : Layout → Tables → ℕ → Type 0
PlacedLent l t room = Placed l.parts l.z l.m t.counts.now t.xs.now t.ys.now t.zs.now t.ms.now room
