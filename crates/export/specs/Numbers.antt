-- What a caller may conclude from the number that crosses: 0 says that a value is given, and any other is document 01's number of the refusal.
use Rattle.std.specs.Prelude.{◌≡◌, Option, List, ℕ, ◌≤◌, eqb, Float, ℤ}
use Rattle.format.specs.declared.units.Bytes.{Bytes}
use Rattle.format.specs.Said.{Said, is_given}
use Rattle.header.specs.Entries.{two_of, record_header, shape_index}
use Rattle.header.specs.Reading.{header_of}
use Rattle.record.specs.Reading.{record_of}
use Rattle.rings.specs.Answers.{closed_of, turning_of, closing_of}
use Rattle.rules.specs.Rules.{verdict}
use Rattle.writer.specs.declared.State.{State}
use Rattle.writer.specs.Adding.{Lent, adding_of}
use Rattle.export.specs.Refusals.{refusal_of}
use Rattle.export.specs.Writing.{finishing_of}

module _ {A : Type 0} where
  -- the number tells it: 0 where a value is given, and 1 to 10 where not
  abbrev pub Tells : Said A → Type 0
  Tells said = (eqb (refusal_of said).number 0 ≡ is_given said) × ((refusal_of said).number ≤ 10)

-- so it is for what each call says
pub record NumberTells : Type 0 where
  pub header : (s : List ℕ) → Tells (header_of s)
  pub record-header : (s : List ℕ) → Tells (two_of record_header s)
  pub index_entry : (s : List ℕ) → Tells (two_of shape_index s)
  pub reading : (wanted : Option ℤ) (size : Bytes) (s : List ℕ) (counts xs ys zs ms : ℕ) → Tells (record_of wanted size s counts xs ys zs ms)
  pub pair : (shp shx : List ℕ) → Tells (verdict shp shx)
  pub adding : (s : State) (t : Lent) (out start entry : ℕ) → Tells (adding_of s t out start entry)
  pub finishing : (s : State) → Tells (finishing_of s)
  pub closed : (xs ys : List Float) (n : ℕ) → Tells (closed_of xs ys n)
  pub turning : (xs ys : List Float) (n : ℕ) → Tells (turning_of xs ys n)
  pub closing : (xs ys : List Float) (n : ℕ) → Tells (closing_of xs ys n)
