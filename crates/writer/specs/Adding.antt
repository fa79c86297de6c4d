-- Adding a record: the order of refusals is 3, 4, 9, 5, 10, 7, 6; the record and the entry are the paper's.
use Rattle.std.specs.Prelude.{◌≡◌, Bool, true, false, cond, ◌&&◌, ◌||◌, not, List, [], ◌∷◌, ◌++◌, ℕ, ◌+◌, ◌*◌, ◌-◌, ◌^◌, min, leb, ltb, eqb, Float, ℤ, pos, nat_abs, length, Result, Ok, Err}
use Rattle.std.proofs.Math.Option.{Option, none, some}
use Rattle.std.proofs.lemmas.List.Edits.{sets}
use Rattle.format.specs.declared.kinds.Kind.{Kind}
use Rattle.format.specs.Encoding.{record_bytes, entry_bytes, shape_words}
use Rattle.format.specs.Kinds.{known, kind_at, kind_or}
use Rattle.format.specs.Lengths.{Form, nothing, one_point, many_points, parts, form_at}
use Rattle.format.specs.Order.{first}
use Rattle.format.specs.Said.{Said, gives, wrong_size, unknown, not_taken, mismatch, tables, long, room_bytes, unless_refused}
use Rattle.format.specs.Shapes.{Shape, null, point, multipoint, parted, there, points_in}
use Rattle.format.specs.Units.{same_int}
use Rattle.header.specs.declared.bbox.BBoxZ.{BBoxZ}
use Rattle.boxes.specs.Boxes.{start_box, grown, flat, point_box}
use Rattle.layouts.specs.Answers.{agree, counts_held}
use Rattle.layouts.specs.Tables.{bits, points_of, multipoint_of, parts_of}
use Rattle.writer.specs.declared.State.{State}
use Rattle.format.specs.declared.lengths.KindError.{KindError}
use Rattle.format.specs.declared.lengths.KindError.TheVariants as KindIs
use Rattle.format.specs.declared.shapes.Tables.{Tables}
use Rattle.writer.specs.declared.AddError.{AddError}
use Rattle.writer.specs.declared.AddError.TheVariants as AddIs
use Rattle.writer.specs.declared.Adding.{Adding}
use Rattle.writer.specs.State.{is_zero, state_fine}

-- what a caller lends: the kind's code, the box with the ranges, and the tables
pub record Lent : Type 0 where
  pub code : ℤ
  pub box : BBoxZ
  pub counts : List ℕ
  pub xs : List Float
  pub ys : List Float
  pub zs : List Float
  pub ms : List Float

abbrev pub lent : ℤ → BBoxZ → List ℕ → List Float → List Float → List Float → List Float → Lent
lent code b counts xs ys zs ms = record { code = code; box = b; counts = counts; xs = xs; ys = ys; zs = zs; ms = ms }

-- the same of tables that stand together
abbrev pub lent_tables : ℤ → BBoxZ → Tables → Lent
lent_tables code b t = lent code b t.counts.now t.xs.now t.ys.now t.zs.now t.ms.now

-- the form, and the kind of the code; what is not in the table is refused before either is used
abbrev pub form_or : Option Form → Form
form_or none = nothing
form_or (some form) = form

abbrev pub lent_kind : Lent → Kind
lent_kind t = kind_or (kind_at t.code)

abbrev pub lent_form : Lent → Form
lent_form t = form_or (form_at t.code)

-- ---- the shape that the tables describe

abbrev pub value_of : Bool → List Float → Option ℕ
value_of false values = none
value_of true [] = none
value_of true (x ∷ values) = some (bits x)

abbrev pub point_shape : Kind → List Float → List Float → List Float → List Float → Shape
point_shape k xs ys zs ms = made (points_of xs ys)
  where
    made : List Rattle.format.specs.Shapes.Point → Shape
    made [] = null
    made (p ∷ ps) = point p (value_of k.z zs) (value_of k.m ms)

-- M and Z kinds always write m
unfoldable pub lent_shape : Lent → Shape
lent_shape t = made (lent_form t)
  where
    made : Form → Shape
    made nothing = null
    made one_point = point_shape (lent_kind t) t.xs t.ys t.zs t.ms
    made many_points = multipoint (multipoint_of (lent_kind t).z (lent_kind t).m t.box t.xs t.ys t.zs t.ms)
    made parts = parted (parts_of (lent_kind t).z (lent_kind t).m t.box t.counts t.xs t.ys t.zs t.ms)

-- ---- the tests

-- a point kind has no parts and n = 1
abbrev pub point_agrees : Kind → Lent → Bool
point_agrees k t =
    eqb (length t.counts) 0
    && eqb (length t.xs) 1
    && eqb (length t.ys) 1
    && eqb (length t.zs) (cond k.z 1 0)
    && eqb (length t.ms) (cond k.m 1 0)

-- a Null record has no table that is not empty
abbrev pub null_agrees : Lent → Bool
null_agrees t =
    eqb (length t.counts) 0 && eqb (length t.xs) 0 && eqb (length t.ys) 0 && eqb (length t.zs) 0 && eqb (length t.ms) 0

abbrev pub lent_agree : Lent → Bool
lent_agree t = by_form (lent_form t)
  where
    by_form : Form → Bool
    by_form nothing = null_agrees t
    by_form one_point = point_agrees (lent_kind t) t
    by_form many_points = agree false (lent_kind t).z (lent_kind t).m t.counts t.xs t.ys t.zs t.ms
    by_form parts = agree true (lent_kind t).z (lent_kind t).m t.counts t.xs t.ys t.zs t.ms

-- the words of the file with the record
abbrev pub words_then : State → Lent → ℕ
words_then s t = nat_abs s.words.0 + (4 + shape_words (lent_shape t))

-- the points of the file with the record
abbrev pub points_then : State → Lent → ℕ
points_then s t = s.points + points_in (lent_shape t)

-- an i32 holds the counts and the file's words
abbrev pub held_then : State → Lent → Bool
held_then s t = counts_held (lent_kind t).parts t.counts t.xs && ltb (words_then s t) (2 ^ 31)

-- the bytes of the record, and those that its buffer has to have: at most the largest usize
abbrev pub record_size : Lent → ℕ
record_size t = 8 + 2 * shape_words (lent_shape t)

abbrev pub buffer_needed : ℕ → Lent → ℕ
buffer_needed start t = min (start + record_size t) (2 ^ 64 - 1)

-- 3, 4, 9 and 5: of the state and the kind; a state of kind 0 takes any kind but Null, and a state with a kind takes that kind and Null
abbrev pub kind_tests : {A : Type 0} → State → ℤ → List (Bool × Said A)
kind_tests s code =
    (state_fine s, wrong_size 0)
    ∷ (known code, unknown code)
    ∷ (there (form_at code) && not (is_zero code && is_zero s.kind), not_taken code)
    ∷ (is_zero s.kind || is_zero code || same_int s.kind code, mismatch s.kind code)
    ∷ []

-- 10, 7 and 6: of the tables, the length and the room, the record's buffer first
abbrev pub shape_tests : {A : Type 0} → State → Lent → ℕ → ℕ → ℕ → List (Bool × Said A)
shape_tests s t out start entry =
    (lent_agree t, tables)
    ∷ (held_then s t, long)
    ∷ (leb (start + record_size t) out, room_bytes (buffer_needed start t))
    ∷ (leb 8 entry, room_bytes 8)
    ∷ []

abbrev pub add_tests : {A : Type 0} → State → Lent → ℕ → ℕ → ℕ → List (Bool × Said A)
add_tests s t out start entry = kind_tests s t.code ++ shape_tests s t out start entry

-- ---- what is written, and the next state

abbrev pub record_of : State → Lent → List ℕ
record_of s t = record_bytes (lent_kind t) (nat_abs s.number) (lent_shape t)

abbrev pub entry_of : State → Lent → List ℕ
entry_of s t = entry_bytes (record { offset = nat_abs s.words.0; words = shape_words (lent_shape t) })

-- the first record finds the start values
abbrev pub held_box : State → BBoxZ
held_box s = cond (is_zero s.kind) start_box s.bbox

-- the kind and the box behind the record: a point gives its own values, several points the given box and ranges, and Null leaves both as they were
abbrev pub kind_then : Form → State → Lent → ℤ
kind_then nothing s t = s.kind
kind_then one_point s t = t.code
kind_then many_points s t = t.code
kind_then parts s t = t.code

abbrev pub box_then : Form → State → Lent → BBoxZ
box_then nothing s t = s.bbox
box_then one_point s t = grown (flat (lent_kind t) (point_box t.xs t.ys t.zs t.ms)) (held_box s)
box_then many_points s t = grown (flat (lent_kind t) t.box) (held_box s)
box_then parts s t = grown (flat (lent_kind t) t.box) (held_box s)

unfoldable pub next_state : State → Lent → State
next_state s t =
    record {
      words = record { 0 = pos (words_then s t) };
      number = pos (nat_abs s.number + 1);
      kind = kind_then (lent_form t) s t;
      points = points_then s t;
      bbox = box_then (lent_form t) s t;
    }

-- the bytes of the record, with buffers of these lengths
unfoldable pub adding_of : State → Lent → ℕ → ℕ → ℕ → Said ℕ
adding_of s t out start entry = first (add_tests s t out start entry) (gives (record_size t))

-- ---- the answer in document 01's terms, and all that a call leaves

abbrev pub said_refusal : AddError → Said ℕ
said_refusal AddIs.Size = wrong_size 0
said_refusal (AddIs.Unknown code) = unknown code
said_refusal (AddIs.NotTaken code) = not_taken code
said_refusal (AddIs.Mismatch held found) = mismatch held found
said_refusal AddIs.Tables = tables
said_refusal AddIs.Long = long
said_refusal (AddIs.Room n) = room_bytes n

abbrev pub said_add : Result ℕ AddError → Said ℕ
said_add (Ok n) = gives n
said_add (Err e) = said_refusal e

-- the refusal of a code that has no formulas
abbrev pub kind_refused : KindError → AddError
kind_refused (KindIs.Unknown code) = AddIs.Unknown code
kind_refused (KindIs.NotTaken code) = AddIs.NotTaken code

pub record Adds (s : State) (t : Lent) (out : List ℕ) (start : ℕ) (entry : List ℕ) (r : Adding) (out' entry' : List ℕ) : Type 0 where
  pub says : said_add r.answer ≡ adding_of s t (length out) start (length entry)
  pub state_is : r.state ≡ unless_refused (said_add r.answer) s (next_state s t)
  pub out_is : out' ≡ unless_refused (said_add r.answer) out (sets out start (record_of s t))
  pub entry_is : entry' ≡ unless_refused (said_add r.answer) entry (sets entry 0 (entry_of s t))

-- the answer and the state, where the state is lent and the answer alone comes back
abbrev pub adding : Result ℕ AddError → State → Adding
adding answer s = record { answer = answer; state = s }
