-- The old form of adding a record: the pairs were lent in one table. What does not speak of pairs is today's.
use Rattle.std.specs.Prelude.{◌≡◌, Bool, true, false, cond, ◌&&◌, List, [], ◌∷◌, ◌++◌, ℕ, ◌+◌, ◌*◌, ◌-◌, ◌^◌, min, leb, ltb, eqb, Float, ℤ, pos, nat_abs, length, get_or}
use Rattle.std.proofs.lemmas.List.Edits.{sets}
use Rattle.format.specs.declared.kinds.Kind.{Kind}
use Rattle.format.specs.Encoding.{shape_words, record_bytes, entry_bytes}
use Rattle.format.specs.Kinds.{kind_at, kind_or}
use Rattle.format.specs.Lengths.{Form, nothing, one_point, many_points, parts, form_at}
use Rattle.format.specs.Order.{first}
use Rattle.format.specs.Said.{Said, gives, tables, long, room_bytes, unless_refused}
use Rattle.format.specs.Shapes.{Point, Shape, null, point, multipoint, parted, points_in}
use Rattle.header.specs.declared.bbox.BBoxZ.{BBoxZ}
use Rattle.boxes.specs.Boxes.{zero_double, grown, flat}
use Rattle.writer.specs.declared.State.{State}
use Rattle.writer.specs.declared.Adding.{Adding}
use Rattle.writer.specs.Adding.{form_or, value_of, kind_tests, held_box, said_add}
use Rattle.apart.specs.OldWriting.{points_of, parts_of, multipoint_of, agree, counts_held}

pub record Lent : Type 0 where
  pub code : ℤ
  pub box : BBoxZ
  pub counts : List ℕ
  pub xy : List Float
  pub zs : List Float
  pub ms : List Float

abbrev pub lent_kind : Lent → Kind
lent_kind t = kind_or (kind_at t.code)

abbrev pub lent_form : Lent → Form
lent_form t = form_or (form_at t.code)

abbrev pub point_shape : Kind → List Float → List Float → List Float → Shape
point_shape k xy zs ms = made (points_of xy)
  where
    made : List Point → Shape
    made [] = null
    made (p ∷ ps) = point p (value_of k.z zs) (value_of k.m ms)

abbrev pub shape_by : Form → Lent → Shape
shape_by nothing t = null
shape_by one_point t = point_shape (lent_kind t) t.xy t.zs t.ms
shape_by many_points t = multipoint (multipoint_of (lent_kind t).z (lent_kind t).m t.box t.xy t.zs t.ms)
shape_by parts t = parted (parts_of (lent_kind t).z (lent_kind t).m t.box t.counts t.xy t.zs t.ms)

abbrev pub lent_shape : Lent → Shape
lent_shape t = shape_by (lent_form t) t

abbrev pub agree_by : Form → Lent → Bool
agree_by nothing t = eqb (length t.counts) 0 && eqb (length t.xy) 0 && eqb (length t.zs) 0 && eqb (length t.ms) 0
agree_by one_point t =
    eqb (length t.counts) 0
    && eqb (length t.xy) 2
    && eqb (length t.zs) (cond (lent_kind t).z 1 0)
    && eqb (length t.ms) (cond (lent_kind t).m 1 0)
agree_by many_points t = agree false (lent_kind t).z (lent_kind t).m t.counts t.xy t.zs t.ms
agree_by parts t = agree true (lent_kind t).z (lent_kind t).m t.counts t.xy t.zs t.ms

abbrev pub lent_agree : Lent → Bool
lent_agree t = agree_by (lent_form t) t

abbrev pub words_then : State → Lent → ℕ
words_then s t = nat_abs s.words.0 + (4 + shape_words (lent_shape t))

abbrev pub held_then : State → Lent → Bool
held_then s t = counts_held (lent_kind t).parts t.counts t.xy && ltb (words_then s t) (2 ^ 31)

abbrev pub record_size : Lent → ℕ
record_size t = 8 + 2 * shape_words (lent_shape t)

abbrev pub buffer_needed : ℕ → Lent → ℕ
buffer_needed start t = min (start + record_size t) (2 ^ 64 - 1)

abbrev pub shape_tests : State → Lent → ℕ → ℕ → ℕ → List (Bool × Said ℕ)
shape_tests s t out start entry =
    (lent_agree t, tables)
    ∷ (held_then s t, long)
    ∷ (leb (start + record_size t) out, room_bytes (buffer_needed start t))
    ∷ (leb 8 entry, room_bytes 8)
    ∷ []

abbrev pub adding_of : State → Lent → ℕ → ℕ → ℕ → Said ℕ
adding_of s t out start entry = first (kind_tests s t.code ++ shape_tests s t out start entry) (gives (record_size t))

abbrev pub record_of : State → Lent → List ℕ
record_of s t = record_bytes (lent_kind t) (nat_abs s.number) (lent_shape t)

abbrev pub entry_of : State → Lent → List ℕ
entry_of s t = entry_bytes (record { offset = nat_abs s.words.0; words = shape_words (lent_shape t) })

abbrev pub point_box : List Float → List Float → List Float → BBoxZ
point_box xy zs ms =
    record {
      xmin = get_or xy 0 zero_double;
      ymin = get_or xy 1 zero_double;
      xmax = get_or xy 0 zero_double;
      ymax = get_or xy 1 zero_double;
      zmin = get_or zs 0 zero_double;
      zmax = get_or zs 0 zero_double;
      mmin = get_or ms 0 zero_double;
      mmax = get_or ms 0 zero_double;
    }

abbrev pub kind_then : Form → State → Lent → ℤ
kind_then nothing s t = s.kind
kind_then one_point s t = t.code
kind_then many_points s t = t.code
kind_then parts s t = t.code

abbrev pub box_then : Form → State → Lent → BBoxZ
box_then nothing s t = s.bbox
box_then one_point s t = grown (flat (lent_kind t) (point_box t.xy t.zs t.ms)) (held_box s)
box_then many_points s t = grown (flat (lent_kind t) t.box) (held_box s)
box_then parts s t = grown (flat (lent_kind t) t.box) (held_box s)

abbrev pub next_state : State → Lent → State
next_state s t =
    record {
      words = record { 0 = pos (words_then s t) };
      number = pos (nat_abs s.number + 1);
      kind = kind_then (lent_form t) s t;
      points = s.points + points_in (lent_shape t);
      bbox = box_then (lent_form t) s t;
    }

pub record Adds (s : State) (t : Lent) (out : List ℕ) (start : ℕ) (entry : List ℕ) (r : Adding) (out' entry' : List ℕ) : Type 0 where
  pub says : said_add r.answer ≡ adding_of s t (length out) start (length entry)
  pub state_is : r.state ≡ unless_refused (said_add r.answer) s (next_state s t)
  pub out_is : out' ≡ unless_refused (said_add r.answer) out (sets out start (record_of s t))
  pub entry_is : entry' ≡ unless_refused (said_add r.answer) entry (sets entry 0 (entry_of s t))
