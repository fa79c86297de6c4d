-- The lengths of document 01's table of kinds, in numbers: a computed test over all fourteen rows. The sums of src/lengths.rt, which are proved to say
-- what `content_of` says, come to these.
use mathlib.Core.Path.{◌≡◌, refl}
use mathlib.Core.List.{List, [], ◌∷◌, map}
use Prim.Native.Nat.{ℕ}
use lib.IntN.{pos}
use Rattle.format.specs.declared.kinds.Kind.{Kind}
use Rattle.format.specs.declared.lengths.Lengths.{Lengths}
use Rattle.format.specs.Kinds.{kinds, row_of}
use Rattle.format.specs.Lengths.{is_multipoint, form_of, fixed_words, point_words, lengths_of, content_of}
use Rattle.format.specs.Said.{Said, gives, not_taken}

-- a code, its fixed words and its words for each point without m, and the two with m; beside them a part takes 2
abbrev row : ℕ → ℕ → ℕ → ℕ → ℕ → ℕ × Said Lengths
row code fixed point fixed_m point_m =
    (code, gives (record { without = record { fixed = fixed; point = point }; with = record { fixed = fixed_m; point = point_m } }))

unfoldable rows : List (ℕ × Said Lengths)
rows =
    -- Null
    row 0 2 0 2 0
    -- Point
    ∷ row 1 10 0 10 0
    -- Polyline, Polygon
    ∷ row 3 22 8 22 8
    ∷ row 5 22 8 22 8
    -- Multipoint
    ∷ row 8 20 8 20 8
    -- PointZ
    ∷ row 11 18 0 18 0
    -- PolylineZ, PolygonZ
    ∷ row 13 30 12 38 16
    ∷ row 15 30 12 38 16
    -- MultipointZ
    ∷ row 18 28 12 36 16
    -- PointM
    ∷ row 21 14 0 14 0
    -- PolylineM, PolygonM
    ∷ row 23 22 8 30 12
    ∷ row 25 22 8 30 12
    -- MultipointM
    ∷ row 28 20 8 28 12
    -- Multipatch
    ∷ (31, not_taken (pos 31))
    ∷ []

abbrev row_said : Kind → ℕ × Said Lengths
row_said k = (k.code, content_of (pos k.code))

table_right : map row_said kinds ≡ rows
unfolding rows kinds row_of content_of lengths_of form_of is_multipoint fixed_words point_words
table_right = refl
