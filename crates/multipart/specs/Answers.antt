-- The answers of this crate in document 01's terms, and what each call leaves in the lent stores.
use Rattle.std.specs.Prelude.{◌≡◌, Bool, cond, List, ℕ, Float, ℤ, nat_abs, ◌-ℤ◌, length, Option, None, Some, Result, Ok, Err}
use Rattle.std.proofs.lemmas.List.Edits.{sets}
use Rattle.format.specs.Numbers.{le_i32}
use Rattle.format.specs.Order.{first}
use Rattle.format.specs.Said.{Said, gives, short, wrong_size, room, unless_refused}
use Rattle.multipart.specs.declared.Body.{Body}
use Rattle.multipart.specs.declared.Counts.{Counts}
use Rattle.multipart.specs.declared.CountsError.{CountsError}
use Rattle.multipart.specs.declared.CountsError.TheVariants as CountsErrorIs
use Rattle.multipart.specs.declared.BodyError.{BodyError}
use Rattle.multipart.specs.declared.BodyError.TheVariants as BodyErrorIs
use Rattle.multipart.specs.Body.{parts_in, number_at, count_tests, counts_in, x_in, y_in, z_in, m_in, body_of}
use Rattle.multipart.specs.Parts.{is_count}

-- ---- a part's count, from its start and its end

abbrev pub said_part : Option ℕ → Said ℕ
said_part (Some n) = gives n
said_part None = wrong_size 0

unfoldable pub part_of : ℤ → ℤ → Said ℕ
part_of start end = cond (is_count (end -ℤ start)) (gives (nat_abs (end -ℤ start))) (wrong_size 0)

-- ---- the two counts of a body: a multipoint has no parts

-- the refusal that an error is
abbrev pub refusal : {A : Type 0} → CountsError → Said A
refusal (CountsErrorIs.Short e) = short e.at e.present
refusal (CountsErrorIs.Size at) = wrong_size at

abbrev pub said_counts : Result Counts CountsError → Said Counts
said_counts (Ok c) = gives c
said_counts (Err e) = refusal e

unfoldable pub counts_of : Bool → List ℕ → Said Counts
counts_of parts s = first (count_tests parts s) (gives (record { parts = parts_in parts s; points = nat_abs (le_i32 (number_at parts) s) }))

-- ---- a body

-- an error of the counts is one of the body
abbrev pub of_counts : CountsError → BodyError
of_counts (CountsErrorIs.Short e) = BodyErrorIs.Short e
of_counts (CountsErrorIs.Size at) = BodyErrorIs.Size at

abbrev pub said_body : Result Body BodyError → Said Body
said_body (Ok b) = gives b
said_body (Err (BodyErrorIs.Short e)) = short e.at e.present
said_body (Err (BodyErrorIs.Size at)) = wrong_size at
said_body (Err (BodyErrorIs.Room parts points)) = room parts points

-- what reading a body comes to: the answer, and the stores, of which entries past what is stored stay
pub record ReadsBody (parts z m : Bool) (s counts : List ℕ) (xs ys zs ms : List Float) (answer : Result Body BodyError) (counts' : List ℕ) (xs' ys' zs' ms' : List Float) : Type 0 where
  pub says : said_body answer ≡ body_of parts z m s (length counts) (length xs) (length ys) (length zs) (length ms)
  pub counts_are : counts' ≡ unless_refused (said_body answer) counts (sets counts 0 (counts_in parts s))
  pub x_are : xs' ≡ unless_refused (said_body answer) xs (sets xs 0 (x_in parts s))
  pub y_are : ys' ≡ unless_refused (said_body answer) ys (sets ys 0 (y_in parts s))
  pub z_are : zs' ≡ unless_refused (said_body answer) zs (sets zs 0 (z_in parts z s))
  pub m_are : ms' ≡ unless_refused (said_body answer) ms (sets ms 0 (m_in parts z m s))
