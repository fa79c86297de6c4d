-- What the steps of reading a record find, for their contracts: tests whatever follows them, what is known behind them, a size, and the stores.
use Rattle.std.specs.Prelude.{◌≡◌, Bool, true, false, cond, List, ℕ, ◌+◌, ◌^◌, ◌≤◌, ◌<◌, Float, ℤ, pos, ◌-ℤ◌, length, Option, Some, None, Result, Ok, Err}
use Rattle.std.specs.Float.{binary64}
use Rattle.std.specs.Float.Ieee.{of_int}
use Rattle.format.specs.declared.kinds.Kind.{Kind}
use Rattle.format.specs.declared.lengths.KindError.{KindError}
use Rattle.format.specs.declared.units.Bytes.{Bytes}
use Rattle.format.specs.Numbers.{le_f64}
use Rattle.format.specs.Order.{first}
use Rattle.format.specs.Said.{Said, gives, wrong_size}
use Rattle.format.specs.Units.{in_i32}
use Rattle.multipart.specs.declared.BodyError.{BodyError}
use Rattle.multipart.specs.declared.Counts.{Counts}
use Rattle.multipart.specs.Answers.{counts_of}
use Rattle.multipart.specs.Body.{body_of, counts_in, x_in, y_in, z_in, m_in}
use Rattle.record.specs.declared.Point.{Point}
use Rattle.record.specs.declared.Record.{Record}
use Rattle.record.specs.declared.RecordError.{RecordError}
use Rattle.record.specs.declared.RecordError.TheVariants as Error
use Rattle.record.specs.declared.content.Content.{Content}
use Rattle.record.specs.Reading.{Shaped, point_shape, several_shape, code_in, moved, and_then, has_m, size_right, said_error, said_record, stored}

-- ---- the tests in front of the shape

-- all pass, whatever follows them
abbrev pub Passes : List (Bool × Said Shaped) → Type 0
Passes ts = (a : Said Shaped) → first ts a ≡ a

-- the first that fails refuses so, whatever follows them
abbrev pub Refuses : List (Bool × Said Shaped) → RecordError → Type 0
Refuses ts e = (a : Said Shaped) → said_error e ≡ first ts a

abbrev pub Judges : {A : Type 0} → List (Bool × Said Shaped) → Result A RecordError → Type 0
Judges ts (Ok a) = Passes ts
Judges ts (Err e) = Refuses ts e

-- a code without lengths
abbrev pub of_kind : KindError → RecordError
of_kind (KindError.Unknown code) = Error.Unknown code
of_kind (KindError.NotTaken code) = Error.NotTaken code

-- ---- a size

-- minus 4 it does not leave i32
abbrev pub Held : Bytes → Type 0
Held size = in_i32 (size.0 -ℤ pos 4) ≡ true

-- whether it is the kind's, and then whether m is in it
abbrev pub Sizes : Kind → Bytes → Counts → Option Bool → Type 0
Sizes k size t (Some m) = (size_right k size t ≡ true) × (has_m k size t ≡ m)
Sizes k size t None = size_right k size t ≡ false

-- ---- the shape

-- it is read of a content whose first bytes name the kind
pub record Begins (s : List ℕ) (size : Bytes) (c : Content) : Type 0 where
  pub long : 4 ≤ length s
  pub code_is : c.code ≡ code_in s
  pub size_is : c.size ≡ size

-- the double at a place, or 0 where the flag is not set
abbrev pub double_if : Bool → ℕ → List ℕ → Float
double_if flag at s = cond flag (le_f64 at s) (of_int binary64 (pos 0))

abbrev pub said_point : ℤ → Result Point RecordError → Said Shaped
said_point code (Ok p) = gives (point_shape code p)
said_point code (Err e) = said_error e

-- an answer that says this for stores so long, with what they then hold of a body of the kind
pub record Reads (said : ℕ → ℕ → ℕ → ℕ → ℕ → Said Shaped) (k : Kind) (b counts : List ℕ) (xs ys zs ms : List Float) (r : Result Record RecordError) (counts' : List ℕ) (xs' ys' zs' ms' : List Float) : Type 0 where
  pub says : said_record r ≡ said (length counts) (length xs) (length ys) (length zs) (length ms)
  pub counts_are : counts' ≡ stored (said_record r) counts (λ m. counts_in k.parts b)
  pub x_are : xs' ≡ stored (said_record r) xs (λ m. x_in k.parts b)
  pub y_are : ys' ≡ stored (said_record r) ys (λ m. y_in k.parts b)
  pub z_are : zs' ≡ stored (said_record r) zs (λ m. z_in k.parts k.z b)
  pub m_are : ms' ≡ stored (said_record r) ms (λ m. m_in k.parts k.z m b)

-- the kind's field has room in front of what a body names
abbrev pub Movable : BodyError → Type 0
Movable (BodyError.Short e) = 4 + e.at < 2 ^ 64
Movable (BodyError.Size at) = 4 + at < 2 ^ 64
Movable (BodyError.Room p n) = Unit {0}

-- what a body refuses, as its content does
abbrev pub behind : BodyError → RecordError
behind (BodyError.Short e) = Error.Short (record { at = 4 + e.at; present = e.present })
behind (BodyError.Size at) = Error.Size (4 + at)
behind (BodyError.Room p n) = Error.Room p n

-- a body whose size is judged
unfoldable pub rest_from : ℤ → Bool → Bool → Bool → List ℕ → ℕ → ℕ → ℕ → ℕ → ℕ → Said Shaped
rest_from code parts z m b counts xs ys zs ms = and_then (moved (body_of parts z m b counts xs ys zs ms)) (λ body. gives (several_shape parts code m body))

-- a body whose size is not
unfoldable pub several_from : ℤ → Kind → Bytes → List ℕ → ℕ → ℕ → ℕ → ℕ → ℕ → Said Shaped
several_from code k size b counts xs ys zs ms =
    and_then (moved (counts_of k.parts b))
    (λ t. cond (size_right k size t) (rest_from code k.parts k.z (has_m k size t) b counts xs ys zs ms) (wrong_size 0))
