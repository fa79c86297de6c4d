-- The old form of reading: a body's pairs went into one store, which needed two entries for each point. What does not speak of pairs is today's.
use Rattle.std.specs.Prelude.{◌≡◌, Bool, ◌&&◌, ◌||◌, not, cond, List, [], ◌∷◌, ◌++◌, ℕ, ◌*◌, leb, Float, ℤ, length, drop, Result}
use Rattle.std.specs.Prelude as Std
use Rattle.std.proofs.Math.Option.{Option, none, some}
use Rattle.std.proofs.lemmas.List.Edits.{sets}
use Rattle.format.specs.declared.kinds.Kind.{Kind}
use Rattle.format.specs.declared.units.Bytes.{Bytes}
use Rattle.format.specs.Lengths.{Form, nothing, one_point, many_points, form_at}
use Rattle.format.specs.Lengths
use Rattle.format.specs.Numbers.{doubles_at}
use Rattle.format.specs.Order.{first}
use Rattle.format.specs.Said.{Said, gives, wrong_size, not_taken, room, unless_refused}
use Rattle.multipart.specs.declared.Body.{Body}
use Rattle.multipart.specs.declared.BodyError.{BodyError}
use Rattle.multipart.specs.Answers.{said_body, counts_of}
use Rattle.multipart.specs.Body.{parts_in, counts_in, points_in, pairs_at, z_in, m_in, body_in, count_tests, rest_tests}
use Rattle.record.specs.declared.Record.{Record}
use Rattle.record.specs.declared.RecordError.{RecordError}
use Rattle.record.specs.Reading.{Shaped, null_shape, code_in, kind_in, front_tests, point_of, moved, and_then, has_m, size_right, several_shape, said_record, stored}

-- ---- a body

abbrev pub xy_in : Bool → List ℕ → List Float
xy_in parts s = doubles_at 8 (2 * points_in parts s) (pairs_at parts s) s

abbrev pub has_room : Bool → Bool → ℕ → ℕ → ℕ → ℕ → ℕ → ℕ → Bool
has_room z m p n counts xy zs ms = leb p counts && leb (2 * n) xy && (not z || leb n zs) && (not m || leb n ms)

abbrev pub room_tests : Bool → Bool → Bool → List ℕ → ℕ → ℕ → ℕ → ℕ → List (Bool × Said Body)
room_tests parts z m s counts xy zs ms =
    (has_room z m (parts_in parts s) (points_in parts s) counts xy zs ms, room (parts_in parts s) (points_in parts s)) ∷ []

abbrev pub body_of : Bool → Bool → Bool → List ℕ → ℕ → ℕ → ℕ → ℕ → Said Body
body_of parts z m s counts xy zs ms =
    first (count_tests parts s ++ (rest_tests parts z m s ++ room_tests parts z m s counts xy zs ms)) (gives (body_in parts z m s))

pub record ReadsBody (parts z m : Bool) (s counts : List ℕ) (xy zs ms : List Float) (answer : Result Body BodyError) (counts' : List ℕ) (xy' zs' ms' : List Float) : Type 0 where
  pub says : said_body answer ≡ body_of parts z m s (length counts) (length xy) (length zs) (length ms)
  pub counts_are : counts' ≡ unless_refused (said_body answer) counts (sets counts 0 (counts_in parts s))
  pub xy_are : xy' ≡ unless_refused (said_body answer) xy (sets xy 0 (xy_in parts s))
  pub z_are : zs' ≡ unless_refused (said_body answer) zs (sets zs 0 (z_in parts z s))
  pub m_are : ms' ≡ unless_refused (said_body answer) ms (sets ms 0 (m_in parts z m s))

-- ---- a record

abbrev pub several_of : Kind → Bytes → List ℕ → ℕ → ℕ → ℕ → ℕ → Said Shaped
several_of k size s counts xy zs ms =
    and_then (moved (counts_of k.parts (drop 4 s)))
    (λ two.
    cond (size_right k size two)
    (and_then (moved (body_of k.parts k.z (has_m k size two) (drop 4 s) counts xy zs ms))
    (λ body. gives (several_shape k.parts (code_in s) (has_m k size two) body)))
    (wrong_size 0))

abbrev pub by_form : Option Form → Kind → Bytes → List ℕ → ℕ → ℕ → ℕ → ℕ → Said Shaped
by_form none k size s counts xy zs ms = not_taken (code_in s)
by_form (some nothing) k size s counts xy zs ms = gives null_shape
by_form (some one_point) k size s counts xy zs ms = point_of k size s
by_form (some many_points) k size s counts xy zs ms = several_of k size s counts xy zs ms
by_form (some Lengths.parts) k size s counts xy zs ms = several_of k size s counts xy zs ms

abbrev pub record_of : Std.Option ℤ → Bytes → List ℕ → ℕ → ℕ → ℕ → ℕ → Said Shaped
record_of wanted size s counts xy zs ms =
    first (front_tests wanted size s) (by_form (form_at (code_in s)) (kind_in s) size s counts xy zs ms)

pub record ReadsRecord (wanted : Std.Option ℤ) (size : Bytes) (s counts : List ℕ) (xy zs ms : List Float) (r : Result Record RecordError) (counts' : List ℕ) (xy' zs' ms' : List Float) : Type 0 where
  pub says : said_record r ≡ record_of wanted size s (length counts) (length xy) (length zs) (length ms)
  pub counts_are : counts' ≡ stored (said_record r) counts (λ m. counts_in (kind_in s).parts (drop 4 s))
  pub xy_are : xy' ≡ stored (said_record r) xy (λ m. xy_in (kind_in s).parts (drop 4 s))
  pub z_are : zs' ≡ stored (said_record r) zs (λ m. z_in (kind_in s).parts (kind_in s).z (drop 4 s))
  pub m_are : ms' ≡ stored (said_record r) ms (λ m. m_in (kind_in s).parts (kind_in s).z m (drop 4 s))
