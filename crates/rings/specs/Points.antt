-- Runs of points, and what document 01 says of them under "Rings": closed, closing and turning.
use Rattle.std.specs.Prelude.{Bool, false, cond, ◌&&◌, ℕ, pos, Float}
use mathlib.Core.List.{List, [], ◌∷◌, foldl, map}
use Rattle.std.specs.Float.{binary64}
use Rattle.std.specs.Float.Ieee.{add, sub, mul, div, lt, eq, of_int}

pub record Point : Type 0 where
  pub x : Float
  pub y : Float

-- a point for each x and y
unfoldable pub points : List Float → List Float → List Point
points [] ys = []
points (x ∷ xs) [] = []
points (x ∷ xs) (y ∷ ys) = record { x = x; y = y } ∷ points xs ys

-- and the x of points, and their y
abbrev pub x_of : List Point → List Float
x_of ps = map (λ (p : Point). p.x) ps

abbrev pub y_of : List Point → List Float
y_of ps = map (λ (p : Point). p.y) ps

-- ---- closed: there is a first point and it equals the last in x and y as IEEE numbers

abbrev pub equal : Point → Point → Bool
equal p q = eq p.x q.x && eq p.y q.y

-- the last of the points of which p is the first
abbrev pub last_from : Point → List Point → Point
last_from p [] = p
last_from p (q ∷ ps) = last_from q ps

unfoldable pub closed : List Point → Bool
closed [] = false
closed (p ∷ ps) = equal p (last_from p ps)

-- ---- closing: a run that has a point and is not closed gets its first point appended

unfoldable pub appended : List Point → List Point
appended [] = []
appended (p ∷ ps) = cond (closed (p ∷ ps)) [] (p ∷ [])

-- ---- turning: from the left, sum (x1-x0)*(y1+y0) over neighbours, each operation rounded once, divide by 2; inner if the result is below 0,
-- else outer

-- a whole number as a double
abbrev pub number : ℕ → Float
number n = of_int binary64 (pos n)

abbrev pub product : Point → Point → Float
product p q = mul binary64 (sub binary64 q.x p.x) (add binary64 q.y p.y)

-- of each two neighbours
unfoldable pub products : List Point → List Float
products [] = []
products (p ∷ []) = []
products (p ∷ q ∷ ps) = product p q ∷ products (q ∷ ps)

-- x and then each of the others, added from the left
abbrev pub plus : Float → List Float → Float
plus x ys = foldl (add binary64) x ys

unfoldable pub half_sum : List Point → Float
half_sum ps = div binary64 (plus (number 0) (products ps)) (number 2)

pub data Turning : Type 0 where
  outer : Turning
  inner : Turning

unfoldable pub turning : List Point → Turning
turning ps = cond (lt (half_sum ps) (number 0)) inner outer
