-- The old form of the ring helpers: a run was so many coordinates x0 y0 x1 y1 .. at the front of one store. What is asked of points is today's.
use Rattle.std.specs.Prelude.{◌≡◌, Bool, List, [], ◌∷◌, ℕ, ◌*◌, ◌%◌, leb, eqb, Float, length, take, Result}
use Rattle.std.proofs.lemmas.List.Edits.{sets}
use Rattle.format.specs.Order.{first}
use Rattle.format.specs.Said.{Said, gives, room, tables, unless_refused}
use Rattle.rings.specs.declared.CloseError.{CloseError}
use Rattle.rings.specs.Answers.{said_closing, count_then}
use Rattle.rings.specs.Points.{Point, closed, appended, Turning, turning}

abbrev pub points : List Float → List Point
points [] = []
points (x ∷ []) = []
points (x ∷ y ∷ xy) = record { x = x; y = y } ∷ points xy

abbrev pub flat : List Point → List Float
flat [] = []
flat (p ∷ ps) = p.x ∷ p.y ∷ flat ps

module _ {A : Type 0} where
  -- a run of odd length was 10
  abbrev pub of_run : (List Point → A) → List Float → Said A
  of_run what xy = first ((eqb (length xy % 2) 0, tables) ∷ []) (gives (what (points xy)))

abbrev pub closed_of : List Float → Said Bool
closed_of xy = of_run closed xy

abbrev pub turning_of : List Float → Said Turning
turning_of xy = of_run turning xy

abbrev pub front : List Float → ℕ → List Point
front store run = points (take run store)

abbrev pub closing_of : List Float → ℕ → Said ℕ
closing_of store run =
    first
    ((leb run (length store), tables)
    ∷ (eqb (run % 2) 0, tables)
    ∷ (leb (2 * count_then (front store run)) (length store), room 0 (count_then (front store run)))
    ∷ [])
    (gives (count_then (front store run)))

abbrev pub store_then : List Float → ℕ → List Float
store_then store run = unless_refused (closing_of store run) store (sets store run (flat (appended (front store run))))

pub record Closing (store : List Float) (run : ℕ) (answer : Result ℕ CloseError) (after : List Float) : Type 0 where
  pub answered : said_closing answer ≡ closing_of store run
  pub left : after ≡ store_then store run
