-- What each call of "Rings" answers, in document 01's terms, and what closing leaves in the stores.
use Rattle.std.specs.Prelude.{◌≡◌, Bool, ◌&&◌, List, [], ◌∷◌, ◌++◌, ℕ, ◌+◌, leb, Float, length, take, Result, Ok, Err}
use Rattle.std.proofs.lemmas.List.Edits.{sets}
use Rattle.format.specs.Order.{first}
use Rattle.format.specs.Said.{Said, gives, room, tables, unless_refused}
use Rattle.rings.specs.declared.TooFew.{TooFew}
use Rattle.rings.specs.declared.RingType.{RingType}
use Rattle.rings.specs.declared.RingType.TheVariants.{OuterRing, InnerRing}
use Rattle.rings.specs.declared.CloseError.{CloseError}
use Rattle.rings.specs.declared.CloseError.TheVariants.{Tables, Room}
use Rattle.rings.specs.Points.{Point, points, x_of, y_of, closed, appended, Turning, outer, inner, turning}

-- a run of n points is the first n of both stores
abbrev pub run_of : List Float → List Float → ℕ → List Point
run_of xs ys n = points (take n xs) (take n ys)

module _ {A : Type 0} where
  -- past either store it is 10
  abbrev pub run_tests : List Float → List Float → ℕ → List (Bool × Said A)
  run_tests xs ys n = (leb n (length xs), tables) ∷ (leb n (length ys), tables) ∷ []

  -- what is said of its points
  abbrev pub of_run : (List Point → A) → List Float → List Float → ℕ → Said A
  of_run what xs ys n = first (run_tests xs ys n) (gives (what (run_of xs ys n)))

-- ---- closed

abbrev pub said_closed : Result Bool TooFew → Said Bool
said_closed (Ok b) = gives b
said_closed (Err few) = tables

unfoldable pub closed_of : List Float → List Float → ℕ → Said Bool
closed_of xs ys n = of_run closed xs ys n

-- ---- turning

abbrev pub turning_is : RingType → Turning
turning_is OuterRing = outer
turning_is InnerRing = inner

abbrev pub said_turning : Result RingType TooFew → Said Turning
said_turning (Ok t) = gives (turning_is t)
said_turning (Err few) = tables

unfoldable pub turning_of : List Float → List Float → ℕ → Said Turning
turning_of xs ys n = of_run turning xs ys n

-- ---- closing

abbrev pub said_closing : Result ℕ CloseError → Said ℕ
said_closing (Ok n) = gives n
said_closing (Err Tables) = tables
said_closing (Err (Room n)) = room 0 n

-- how many points a run has when it is closed
abbrev pub count_then : List Point → ℕ
count_then ps = length ps + length (appended ps)

-- 10 comes before 6: both stores have to hold the closed run
unfoldable pub closing_of : List Float → List Float → ℕ → Said ℕ
closing_of xs ys n =
    let closed-has = count_then (run_of xs ys n) in
    first (run_tests xs ys n ++ ((leb closed-has (length xs) && leb closed-has (length ys), room 0 closed-has) ∷ [])) (gives closed-has)

-- the stores with what is appended, which stands behind the run
abbrev pub x_then : List Float → List Float → ℕ → List Float
x_then xs ys n = sets xs n (x_of (appended (run_of xs ys n)))

abbrev pub y_then : List Float → List Float → ℕ → List Float
y_then xs ys n = sets ys n (y_of (appended (run_of xs ys n)))

-- what a call of closing comes to: the answer, and both stores
pub record Closing (xs ys : List Float) (n : ℕ) (answer : Result ℕ CloseError) (xs' ys' : List Float) : Type 0 where
  pub answered : said_closing answer ≡ closing_of xs ys n
  pub x_left : xs' ≡ unless_refused (said_closing answer) xs (x_then xs ys n)
  pub y_left : ys' ≡ unless_refused (said_closing answer) ys (y_then xs ys n)
