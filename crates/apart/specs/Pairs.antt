-- A store of pairs x0 y0 x1 y1 .. taken apart, and put together.
use Rattle.std.specs.Prelude.{List, [], ◌∷◌, Float}

-- the entries at even places, and those at odd places
abbrev pub all_x : List Float → List Float
all_x [] = []
all_x (x ∷ []) = x ∷ []
all_x (x ∷ y ∷ xy) = x ∷ all_x xy

abbrev pub all_y : List Float → List Float
all_y [] = []
all_y (x ∷ []) = []
all_y (x ∷ y ∷ xy) = y ∷ all_y xy

-- as far as both go
abbrev pub together : List Float → List Float → List Float
together [] ys = []
together (x ∷ xs) [] = []
together (x ∷ xs) (y ∷ ys) = x ∷ y ∷ together xs ys
