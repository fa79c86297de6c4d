-- What the parts of adding a record say to each other: the judges' answers, and the shape, its words and the next state by the kind that was found.
use Rattle.std.specs.Prelude.{◌≡◌, Bool, true, false, cond, ◌&&◌, ◌||◌, not, List, ◌++◌, ℕ, ◌+◌, ◌*◌, ◌-◌, ◌^◌, ◌≤◌, ◌<◌, min, leb, ltb, eqb, Float, ℤ, pos, negsuc, nat_abs, ◌+ℤ◌, length, Result, Ok, Err}
use Rattle.std.specs.Prelude as Std
use Rattle.std.proofs.Math.Option.{Option, none, some}
use Rattle.format.specs.declared.kinds.Kind.{Kind}
use Rattle.format.specs.declared.lengths.Formula.{Formula}
use Rattle.format.specs.declared.shapes.Tables.{Tables}
use Rattle.format.specs.declared.units.Words.{Words}
use Rattle.format.specs.declared.units.Bytes.{Bytes}
use Rattle.format.specs.Kinds.{kind_at}
use Rattle.format.specs.Encoding.{shape_words}
use Rattle.format.specs.Lengths.{Form, nothing, one_point, is_multipoint, has_several, several_form, form_of, formula, content_words, form_at, formula_words}
use Rattle.format.specs.Order.{first}
use Rattle.format.specs.Said.{Said, gives}
use Rattle.format.specs.Shapes.{Shape, null, sum}
use Rattle.format.specs.Units.{in_bytes}
use Rattle.header.specs.declared.bbox.BBoxZ.{BBoxZ}
use Rattle.boxes.specs.Boxes.{grown, flat, point_box}
use Rattle.layouts.specs.Answers.{counts_held}
use Rattle.layouts.specs.Tables.{several_of, points_lent}
use Rattle.writer.specs.declared.State.{State}
use Rattle.format.specs.declared.lengths.KindError.{KindError}
use Rattle.format.specs.declared.lengths.KindError.TheVariants as KindIs
use Rattle.writer.specs.declared.AddError.{AddError}
use Rattle.writer.specs.declared.AddError.TheVariants as AddIs
use Rattle.writer.specs.declared.judge.Judged.{Judged}
use Rattle.writer.specs.Adding.{Lent, point_shape, lent_shape, words_then, record_size, held_box, kind_tests, shape_tests, adding_of, said_refusal}
use Rattle.writer.specs.State.{is_zero, state_fine}

-- ---- numbers and kinds

-- the number, or 0 for one below
abbrev pub natural_of : ℤ → ℕ
natural_of (pos n) = n
natural_of (negsuc n) = 0

abbrev pub words_of : ℕ → Words
words_of n = record { 0 = pos n }

abbrev pub bytes_of : ℕ → Bytes
bytes_of n = record { 0 = pos n }

-- a length in bytes that is not negative
abbrev pub Whole : Bytes → Type 0
Whole size = size.0 ≡ pos (nat_abs size.0)

-- the file's words with a record, whose header takes 4
abbrev pub words_with : Words → Words → ℕ
words_with words content = natural_of words.0 + (4 + natural_of content.0)

abbrev pub words_after : Words → Words → Std.Option Words
words_after words content = cond (ltb (words_with words content) (2 ^ 31)) (Std.Some (words_of (words_with words content))) Std.None

-- a record's bytes: the header's 8 and the content's
abbrev pub record_bytes_of : Words → Bytes
record_bytes_of content = record { 0 = pos 8 +ℤ (in_bytes content).0 }

-- the kind with a code, and its formula with m
abbrev pub by_form : ℤ → Kind → Option Form → Result (Kind × Formula) KindError
by_form code k none = Err (KindIs.NotTaken code)
by_form code k (some form) = Ok (k, formula form k.z k.m)

abbrev pub by_kind : ℤ → Option Kind → Result (Kind × Formula) KindError
by_kind code none = Err (KindIs.Unknown code)
by_kind code (some k) = by_form code k (form_of k)

unfoldable pub look_up : ℤ → Result (Kind × Formula) KindError
look_up code = by_kind code (kind_at code)

-- what is asked of a state's numbers; `first` says that its kind is 0
abbrev pub counts_fine : ℕ → ℕ → ℕ → Bool → Bool
counts_fine words number points first =
    leb 50 words && (leb 1 number && (leb (50 + 6 * (number - 1)) words && (leb points words && (not first || (eqb words 50 && eqb number 1)))))

-- ---- a taken kind has several points, nothing or one point; by it the shape, its points and its words

abbrev pub form_by : Kind → Form
form_by k = cond (has_several k) (several_form k.parts) (cond (eqb k.code 0) nothing one_point)

-- the points of a shape that has not several
abbrev pub single : Kind → ℕ
single k = cond (eqb k.code 0) 0 1

abbrev pub points_by : Kind → List ℕ → List Float → ℕ
points_by k counts xs = cond (has_several k) (points_lent k.parts counts xs) (single k)

-- whether a shape of the kind with these counts has n points
abbrev pub has_points : Kind → List ℕ → ℕ → Bool
has_points k counts n = cond k.parts (eqb n (sum counts)) (eqb (length counts) 0 && (is_multipoint k || eqb n (single k)))

abbrev pub agree_by : Kind → List ℕ → List Float → List Float → List Float → List Float → Bool
agree_by k counts xs ys zs ms =
    (k.parts || eqb (length counts) 0)
    && eqb (length xs) (points_by k counts xs)
    && eqb (length ys) (points_by k counts xs)
    && eqb (length zs) (cond k.z (points_by k counts xs) 0)
    && eqb (length ms) (cond k.m (points_by k counts xs) 0)

abbrev pub shape_by : Kind → BBoxZ → List ℕ → List Float → List Float → List Float → List Float → Shape
shape_by k b counts xs ys zs ms =
    cond (has_several k) (several_of k.parts k.z k.m b counts xs ys zs ms)
    (cond (eqb k.code 0) null (point_shape k xs ys zs ms))

abbrev pub words_by : Kind → List ℕ → List Float → ℕ
words_by k counts xs = content_words (form_by k) k.z k.m (length counts) (points_by k counts xs)

-- ---- the judges

-- what a kind that passed is known by
pub record OfCode (code : ℤ) (k : Kind) : Type 0 where
  pub kind_is : kind_at code ≡ some k
  pub form_is : form_at code ≡ some (form_by k)

pub record KindFine (s : State) (code : ℤ) (k : Kind) (f : Formula) : Type 0 where
  pub fine : state_fine s ≡ true
  pub passes : (more : List (Bool × Said ℕ)) (x : Said ℕ) → first (kind_tests s code ++ more) x ≡ first more x
  pub of_code : OfCode code k
  pub formula_is : f ≡ formula (form_by k) k.z k.m

pub record KindRefused (s : State) (code : ℤ) (e : AddError) : Type 0 where
  pub says : (more : List (Bool × Said ℕ)) (x : Said ℕ) → said_refusal e ≡ first (kind_tests s code ++ more) x

abbrev pub JudgesKind : State → ℤ → Result (Kind × Formula) AddError → Type 0
JudgesKind s code (Ok p) = KindFine s code p.0 p.1
JudgesKind s code (Err e) = KindRefused s code e

abbrev pub tables_judged : Kind → List ℕ → List Float → List Float → List Float → List Float → Result ℕ AddError
tables_judged k counts xs ys zs ms = cond (agree_by k counts xs ys zs ms) (Ok (length xs)) (Err AddIs.Tables)

abbrev pub length_judged : Words → Formula → ℕ → ℕ → Std.Option (Words × Words)
length_judged words f p n =
    let content = words_of (formula_words f p n) in
    cond (ltb p (2 ^ 31) && ltb n (2 ^ 31) && ltb (words_with words content) (2 ^ 31)) (Std.Some (content, words_of (words_with words content))) Std.None

abbrev pub room_judged : ℕ → ℕ → ℕ → ℕ → Result (Unit {0}) AddError
room_judged size out start entry =
    cond (leb (start + size) out) (cond (leb 8 entry) (Ok tt) (Err (AddIs.Room 8))) (Err (AddIs.Room (min (start + size) (2 ^ 64 - 1))))

pub record Passed (s : State) (t : Lent) (out start entry : ℕ) (j : Judged) : Type 0 where
  pub of_code : OfCode t.code j.kind
  pub agrees : agree_by j.kind t.counts t.xs t.ys t.zs t.ms ≡ true
  pub counts-held : counts_held j.kind.parts t.counts t.xs ≡ true
  pub held : words_then s t < 2 ^ 31
  pub words_are : j.content ≡ words_of (shape_words (lent_shape t))
  pub after_is : j.after ≡ words_of (words_then s t)
  pub size_is : j.size ≡ bytes_of (record_size t)
  pub room : start + record_size t ≤ out
  pub entry_room : 8 ≤ entry
  pub passes : first (shape_tests s t out start entry) (gives (record_size t)) ≡ gives (record_size t)

pub record Refused (s : State) (t : Lent) (out start entry : ℕ) (e : AddError) : Type 0 where
  pub says : said_refusal e ≡ first (shape_tests s t out start entry) (gives (record_size t))

abbrev pub JudgesShape : State → Lent → ℕ → ℕ → ℕ → Result Judged AddError → Type 0
JudgesShape s t out start entry (Ok j) = Passed s t out start entry j
JudgesShape s t out start entry (Err e) = Refused s t out start entry e

pub record AllPassed (s : State) (t : Lent) (out start entry : ℕ) (j : Judged) : Type 0 where
  pub fine : state_fine s ≡ true
  pub shape : Passed s t out start entry j
  pub says : gives (nat_abs j.size.0) ≡ adding_of s t out start entry

pub record AllRefused (s : State) (t : Lent) (out start entry : ℕ) (e : AddError) : Type 0 where
  pub says : said_refusal e ≡ adding_of s t out start entry

abbrev pub Judges : State → Lent → ℕ → ℕ → ℕ → Result Judged AddError → Type 0
Judges s t out start entry (Ok j) = AllPassed s t out start entry j
Judges s t out start entry (Err e) = AllRefused s t out start entry e

-- ---- the writing, and the next state

-- what the body's writer asks: the tables agree, an i32 holds the counts, and there is room
pub record Ready (k : Kind) (counts : List ℕ) (xs ys zs ms : List Float) (bytes : ℕ) : Type 0 where
  pub agrees : agree_by k counts xs ys zs ms ≡ true
  pub counts-held : counts_held k.parts counts xs ≡ true
  pub room : 2 * words_by k counts xs ≤ 4 + bytes

-- the kind behind the record
abbrev pub kind_by : State → ℤ → ℤ
kind_by s code = cond (is_zero code) s.kind code

-- the box that a record other than Null gives to the header, and the header's box behind the record
abbrev pub own_by : Kind → BBoxZ → List Float → List Float → List Float → List Float → BBoxZ
own_by k b xs ys zs ms = flat k (cond (has_several k) b (point_box xs ys zs ms))

abbrev pub box_by : State → ℤ → Kind → BBoxZ → List Float → List Float → List Float → List Float → BBoxZ
box_by s code k b xs ys zs ms = cond (is_zero code) s.bbox (grown (own_by k b xs ys zs ms) (held_box s))

abbrev pub next_by : ℤ → Words → ℤ → ℕ → BBoxZ → State
next_by number after kind points b = record { words = after; number = pos (natural_of number + 1); kind = kind; points = points; bbox = b }

-- ---- the same of tables that are lent together

abbrev pub tables_lent : Kind → Tables → Result ℕ AddError
tables_lent k t = tables_judged k t.counts.now t.xs.now t.ys.now t.zs.now t.ms.now

abbrev pub ReadyLent : Kind → Tables → ℕ → Type 0
ReadyLent k t bytes = Ready k t.counts.now t.xs.now t.ys.now t.zs.now t.ms.now bytes

abbrev pub shape_lent : Kind → BBoxZ → Tables → Shape
shape_lent k b t = shape_by k b t.counts.now t.xs.now t.ys.now t.zs.now t.ms.now

abbrev pub words_lent : Kind → Tables → ℕ
words_lent k t = words_by k t.counts.now t.xs.now

abbrev pub own_lent : Kind → BBoxZ → Tables → BBoxZ
own_lent k b t = own_by k b t.xs.now t.ys.now t.zs.now t.ms.now

abbrev pub box_lent : State → ℤ → Kind → BBoxZ → Tables → BBoxZ
box_lent s code k b t = box_by s code k b t.xs.now t.ys.now t.zs.now t.ms.now
