-- What the internal functions find and store, for their contracts: a walk over tests says what they come to, whatever follows them.
use Rattle.std.specs.Prelude.{◌≡◌, Bool, true, false, cond, List, [], ◌∷◌, map, ℕ, ◌+◌, ◌*◌, ◌-◌, ◌/◌, ◌%◌, ◌≤◌, ◌<◌, Float, ℤ, pos, length, Result, Ok, Err}
use Rattle.std.proofs.lemmas.List.Edits.{sets}
use Rattle.std.specs.Int.Signed.{non_neg}
use Rattle.format.specs.Numbers.{le_i32, le_f64}
use Rattle.format.specs.Order.{first}
use Rattle.format.specs.Said.{Said}
use Rattle.format.specs.Shapes.{sum}
use Rattle.format.specs.declared.shapes.Short.{Short}
use Rattle.multipart.specs.declared.Body.{Body}
use Rattle.multipart.specs.declared.Counts.{Counts}
use Rattle.multipart.specs.declared.CountsError.{CountsError}
use Rattle.multipart.specs.declared.CountsError.TheVariants as CountsErrorIs
use Rattle.multipart.specs.Answers.{refusal}
use Rattle.multipart.specs.Parts.{count_of, differences, starts_at}
use Rattle.multipart.specs.Body.{parts_in, number_at, counts_in, points_in, z_at, m_at, range_at, no_range, x_in, y_in, z_in, m_in, body_in, count_tests, part_tests, measure_tests, pair_tests, rest_tests, has_room}

-- ---- tests, whatever follows them

-- all pass
abbrev pub Passes : List (Bool × Said Body) → Type 0
Passes ts = (a : Said Body) → first ts a ≡ a

-- the first that fails gives this refusal
abbrev pub Refuses : List (Bool × Said Body) → Said Body → Type 0
Refuses ts r = (a : Said Body) → first ts a ≡ r

-- what a walk over them finds; P is what is known of its number where all pass
abbrev pub Finds : List (Bool × Said Body) → (ℕ → Type 0) → Result ℕ CountsError → Type 0
Finds ts P (Ok n) = Passes ts × P n
Finds ts P (Err e) = Refuses ts (refusal e)

-- ---- fields

-- a number that is not negative; else its place
abbrev pub NotNegative : ℤ → ℕ → Result ℕ CountsError → Type 0
NotNegative n at (Ok count) = n ≡ pos count
NotNegative n at (Err e) = (non_neg n ≡ false) × (e ≡ CountsErrorIs.Size at)

-- ---- the parts

-- where a part ends, if these starts follow its own: at the next one, the last part at n
abbrev pub end_of : List ℤ → ℤ → ℤ
end_of [] n = n
end_of (b ∷ starts) n = b

-- the differences of p parts whose starts stand from 40 on
abbrev pub differences_of : ℕ → ℤ → List ℕ → List ℤ
differences_of p n s = differences (starts_at p 40 s) n

-- the walk over them finds how many points they have, and all pairs of these are there
abbrev pub PartsWalk : ℕ → ℤ → List ℕ → Result ℕ CountsError → Type 0
PartsWalk p n s =
    Finds (part_tests 40 (40 + 4 * p) (differences_of p n s) s)
    (λ points. (points ≡ sum (map count_of (differences_of p n s))) × (40 + 4 * p + 16 * points ≤ length s))

-- ---- z and m

-- where a range and n values end, if the flag is set
abbrev pub end_after : Bool → ℕ → ℕ → ℕ
end_after flag n at = at + cond flag (16 + 8 * n) 0

-- the walk over them finds that place
abbrev pub MeasureWalk : Bool → ℕ → ℕ → List ℕ → Result ℕ CountsError → Type 0
MeasureWalk flag n at s = Finds (measure_tests flag n at s) (λ end. (end ≡ end_after flag n at) × (end ≤ length s))

-- ---- the body

-- the counts are well, and these are what the body says
pub record Counted (parts : Bool) (s : List ℕ) (said : Counts) : Type 0 where
  pub long : number_at parts + 4 ≤ length s
  pub parts_are : said.parts ≡ parts_in parts s
  pub number_is : le_i32 (number_at parts) s ≡ pos said.points
  pub passes : Passes (count_tests parts s)

-- the walk over the pairs finds how many points are read, and all pairs of these are there
abbrev pub PairsWalk : Bool → List ℕ → Result ℕ CountsError → Type 0
PairsWalk parts s = Finds (pair_tests parts s) (λ points. (points ≡ points_in parts s) × (z_at parts s ≤ length s))

-- and so does the walk over all that follows the counts
abbrev pub RestWalk : Bool → Bool → Bool → List ℕ → Result ℕ CountsError → Type 0
RestWalk parts z m s =
    Finds (rest_tests parts z m s) (λ points. (points ≡ points_in parts s) × (end_after m (points_in parts s) (m_at parts z s) ≤ length s))

-- ---- storing

-- what a body with these counts holds, whose pairs end at a place
abbrev pub body_at : Bool → Bool → ℕ → ℕ → ℕ → List ℕ → Body
body_at z m p points end s =
    record {
      bbox = record { xmin = le_f64 0 s; ymin = le_f64 8 s; xmax = le_f64 16 s; ymax = le_f64 24 s };
      z_range = cond z (range_at end s) no_range;
      m_range = cond m (range_at (end_after z points end) s) no_range;
      parts = p;
      points = points;
    }

-- a body that was judged, which says these counts and has these points, and stores of these lengths that have room for it
pub record Ready (parts z m : Bool) (s : List ℕ) (said : Counts) (points counts xs ys zs ms : ℕ) : Type 0 where
  pub parts_are : said.parts ≡ parts_in parts s
  pub number_is : le_i32 (number_at parts) s ≡ pos said.points
  pub points_are : points ≡ points_in parts s
  pub ends : end_after m (points_in parts s) (m_at parts z s) ≤ length s
  pub room : has_room z m said.parts points counts xs ys zs ms ≡ true

-- what is stored of it
pub record Stores (parts z m : Bool) (s counts : List ℕ) (xs ys zs ms : List Float) (body : Body) (counts' : List ℕ) (xs' ys' zs' ms' : List Float) : Type 0 where
  pub body_is : body ≡ body_in parts z m s
  pub counts_are : counts' ≡ sets counts 0 (counts_in parts s)
  pub x_are : xs' ≡ sets xs 0 (x_in parts s)
  pub y_are : ys' ≡ sets ys 0 (y_in parts s)
  pub z_are : zs' ≡ sets zs 0 (z_in parts z s)
  pub m_are : ms' ≡ sets ms 0 (m_in parts z m s)
