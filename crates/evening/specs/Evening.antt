-- A whole evening of writing. A caller starts with a fresh state and makes any series of calls, refused adds and finishings among them; appends the
-- record and the entry of each accepted add; and in the end puts the headers of a last finishing in front. What the two files then are, and what the
-- pair checker says of them.
--
-- All of it is about public calls: `Adds` is what `add_record` promises, with the state by value, and `write_shape`, with the state lent; `Finishes` is
-- what `finish` promises, and `Checks` what `check_pair` does.
use Rattle.std.specs.Prelude.{◌≡◌, ℕ, ◌+◌, length, take, drop, replicate, Result, Ok, Err, IsOk}
use mathlib.Core.List.{List, [], ◌∷◌, ◌++◌, map, flatten}
use Rattle.format.specs.declared.kinds.Kind.{Kind}
use Rattle.format.specs.Bytes.{field}
use Rattle.format.specs.Encoding.{Box, IsPair}
use Rattle.format.specs.Kinds.{null_kind}
use Rattle.format.specs.Said.{Said, gives, refuses}
use Rattle.format.specs.Shapes.{Shape}
use Rattle.format.specs.WellFormed.{WellFormed}
use Rattle.header.specs.Box.{box_bits}
use Rattle.boxes.specs.Boxes.{settled}
use Rattle.rules.specs.Meaning.{all_parts, all_points, FileOf}
use Rattle.pair.specs.declared.Fault.{Fault}
use Rattle.pair.specs.declared.Totals.{Totals}
use Rattle.pair.specs.Verdicts.{Checks}
use Rattle.writer.specs.declared.State.{State}
use Rattle.writer.specs.declared.Headers.{Headers}
use Rattle.writer.specs.declared.NoState.{NoState}
use Rattle.writer.specs.Adding.{said_add, next_state}
use Rattle.writer.specs.Finishing.{Finishes}
use Rattle.writer.specs.State.{fresh}
use Rattle.series.specs.Series.{Add, Call, adds, finishes, Made, state_after, accepted}
use Rattle.series.specs.Taken.{taken, first_kind}

-- ---- what the caller does

-- what a finishing gives
abbrev pub Finishing : Type 0
Finishing = Result Headers NoState

-- an evening: a series of calls from a fresh state, each by its contract, and a last finishing
pub record Evening (calls : List Call) (last : Finishing) : Type 0 where
  pub made : Made fresh calls
  pub finished : Finishes (state_after fresh calls) last

-- the record that an accepted add gives: as many bytes of the buffer as the answer says, from the start that was named
abbrev pub bytes_said : Said ℕ → ℕ
bytes_said (gives n) = n
bytes_said (refuses n values) = 0

abbrev pub record_given : Add → List ℕ
record_given a = field (bytes_said (said_add a.back.answer)) a.start a.out'

-- and its entry: the first 8 bytes of the second buffer
abbrev pub entry_given : Add → List ℕ
entry_given a = field 8 0 a.entry'

-- the header of each file, or zeros of a finishing that is refused
abbrev pub shp_front : Finishing → List ℕ
shp_front (Ok headers) = headers.shp
shp_front (Err refusal) = replicate 100 0

abbrev pub shx_front : Finishing → List ℕ
shx_front (Ok headers) = headers.shx
shx_front (Err refusal) = replicate 100 0

-- the two files
abbrev pub shp_file : List Call → Finishing → List ℕ
shp_file calls last = shp_front last ++ flatten (map record_given (taken calls))

abbrev pub shx_file : List Call → Finishing → List ℕ
shx_file calls last = shx_front last ++ flatten (map entry_given (taken calls))

-- ---- 1. what they are

-- the state that adds make of one, each as document 01 says of an add
abbrev pub state_of : State → List Add → State
state_of s [] = s
state_of s (a ∷ added) = state_of (next_state s a.lends) added

-- the header's box: the one that the state has come to
abbrev pub box_of : List Call → Box
box_of calls = box_bits (settled (state_of fresh (taken calls)).bbox)

-- The state is the one that the accepted adds make, and the last finishing is not refused. The two files are the paper's encoding of the accepted
-- shapes, in order, with the kind of the first of them and that box.
pub record Written (calls : List Call) (last : Finishing) : Type 0 where
  pub state : state_after fresh calls ≡ state_of fresh (taken calls)
  pub not_refused : IsOk last
  pub pair : IsPair (first_kind (taken calls)) (box_of calls) (accepted calls) (shp_file calls last) (shx_file calls last)

abbrev pub EachIsWritten : Type 0
EachIsWritten = (calls : List Call) (last : Finishing) → Evening calls last → Written calls last

-- ---- 2. what the pair checker says

abbrev pub EachWellFormed : Kind → List Shape → Type 0
EachWellFormed k [] = Unit {0}
EachWellFormed k (s ∷ ss) = WellFormed k s × EachWellFormed k ss

abbrev pub totals : ℕ → ℕ → ℕ → Totals
totals records parts points = record { records = records; parts = parts; points = points }

-- The files are those of a taken kind with well-formed shapes and a finite box, and the checker says yes with their counts.
pub record Checked (calls : List Call) (last : Finishing) : Type 0 where
  pub file : FileOf (first_kind (taken calls)) (box_of calls) (accepted calls) (shp_file calls last) (shx_file calls last)
  pub yes : (v : Result Totals Fault) → Checks (shp_file calls last) (shx_file calls last) v
      → v ≡ Ok (totals (length (accepted calls)) (all_parts (accepted calls)) (all_points (accepted calls)))

-- wherever the accepted shapes are all well-formed
abbrev pub EachIsChecked : Type 0
EachIsChecked =
    (calls : List Call) (last : Finishing) → Evening calls last → EachWellFormed (first_kind (taken calls)) (accepted calls) → Checked calls last

-- ---- 3. an evening without an accepted add

abbrev pub zeros : Box
zeros = record { xmin = 0; ymin = 0; xmax = 0; ymax = 0; zmin = 0; zmax = 0; mmin = 0; mmax = 0 }

-- the empty pair of kind 0, which is also a yes
pub record Empty (calls : List Call) (last : Finishing) : Type 0 where
  pub pair : IsPair null_kind zeros [] (shp_file calls last) (shx_file calls last)
  pub yes : (v : Result Totals Fault) → Checks (shp_file calls last) (shx_file calls last) v → v ≡ Ok (totals 0 0 0)

abbrev pub NoneIsEmpty : Type 0
NoneIsEmpty = (calls : List Call) (last : Finishing) → Evening calls last → taken calls ≡ [] → Empty calls last

-- ---- 4. finishing halfway and adding more

-- the series with its finishings taken out
abbrev pub only_adds : List Call → List Call
only_adds [] = []
only_adds (adds a ∷ calls) = adds a ∷ only_adds calls
only_adds (finishes f ∷ calls) = only_adds calls

-- it can be made too, and whatever its own last finishing is, it has the same files
pub record SameFiles (calls : List Call) (last : Finishing) : Type 0 where
  pub made : Made fresh (only_adds calls)
  pub same_shp : (last' : Finishing) → Evening (only_adds calls) last' → shp_file (only_adds calls) last' ≡ shp_file calls last
  pub same_shx : (last' : Finishing) → Evening (only_adds calls) last' → shx_file (only_adds calls) last' ≡ shx_file calls last

abbrev pub HalfwayIsNothing : Type 0
HalfwayIsNothing = (calls : List Call) (last : Finishing) → Evening calls last → SameFiles calls last

-- and what was saved halfway is an evening of its own: all of the above holds of it
abbrev pub HalfwayIsEvening : Type 0
HalfwayIsEvening = (before after : List Call) (f : Finishing) → Made fresh (before ++ finishes f ∷ after) → Evening before f

-- ---- 5. all records in one buffer, as include/mbenaruul.h puts a pair together

-- what stands in front of the place where the next record goes
abbrev pub up_to : Add → List ℕ
up_to a = take (a.start + bytes_said (said_add a.back.answer)) a.out'

-- in front of its record's start each accepted add is lent what the one before it left there; behind it there may be more room than before. A refused
-- one may be lent anything: nothing at all, to ask how many bytes are needed
abbrev pub InOneBuffer : List ℕ → List Add → Type 0
InOneBuffer front [] = Unit {0}
InOneBuffer front (a ∷ added) = (take a.start a.out ≡ front) × InOneBuffer (up_to a) added

-- what stands there in the end
abbrev pub front_after : List ℕ → List Add → List ℕ
front_after front [] = front
front_after front (a ∷ added) = front_after (up_to a) added

-- with 100 bytes in front of the first record, in whose place the header is put, it is the same file
abbrev pub OneBufferIsIt : Type 0
OneBufferIsIt =
    (calls : List Call) (last : Finishing) (front : List ℕ) → Evening calls last → length front ≡ 100 → InOneBuffer front (taken calls)
    → shp_front last ++ drop 100 (front_after front (taken calls)) ≡ shp_file calls last
