-- An add that is taken: where the caller appends the record and the entry and puts the finished headers in front, the two files are the paper's
-- encoding of one shape more, with every number in its field.
use Rattle.std.specs.Prelude.{◌≡◌, true, ℕ, ◌+◌, ℤ, pos, length}
use mathlib.Core.List.{List, [], ◌∷◌, ◌++◌, map, flatten}
use Rattle.std.proofs.Math.Option.{some}
use Rattle.format.specs.declared.kinds.Kind.{Kind}
use Rattle.format.specs.Encoding.{records_from, entries_from, entry_bytes, end_from, HeldFrom, IsPair}
use Rattle.format.specs.Kinds.{kind_at, kind_or}
use Rattle.format.specs.Said.{gives}
use Rattle.format.specs.Shapes.{Shape, Among}
use Rattle.header.specs.Box.{box_bits}
use Rattle.boxes.specs.Boxes.{settled}
use Rattle.rules.specs.Meaning.{all_points}
use Rattle.writer.specs.declared.State.{State}
use Rattle.writer.specs.Adding.{Lent, lent_shape, record_of, entry_of, next_state, adding_of}
use Rattle.writer.specs.Finishing.{shp_header, shx_header}
use Rattle.writer.specs.State.{fresh, state_fine}

-- the kind of a state behind these shapes: 0 behind none, else theirs
abbrev pub KindBehind : Kind → List Shape → ℤ → Type 0
KindBehind k [] code = code ≡ pos 0
KindBehind k (s ∷ ss) code = kind_at code ≡ some k

-- the state is the one behind these shapes of that kind: the first of them stands at word 50 with number 1, and i32 fields hold their numbers; its
-- points are all of theirs
pub record Behind (k : Kind) (ss : List Shape) (s : State) : Type 0 where
  pub words : s.words.0 ≡ pos (end_from 50 ss)
  pub number : s.number ≡ pos (length ss + 1)
  pub kind : KindBehind k ss s.kind
  pub points : s.points ≡ all_points ss
  pub held : HeldFrom 1 50 ss

-- the kind that a state names
abbrev pub state_kind : State → Kind
state_kind s = kind_or (kind_at s.kind)

-- the records of these shapes, and their entries
abbrev pub records : Kind → List Shape → List ℕ
records k ss = records_from k 1 ss

abbrev pub entries : List Shape → List ℕ
entries ss = flatten (map entry_bytes (entries_from 50 ss))

-- One shape more: it is of the kind that the next state names, or Null, the next state is the one behind it, and finishing does not refuse that
-- state. The records with the new one behind them are those of the longer list, so are the entries, and with the finished headers in front they
-- are its pair of files.
pub record OneMore (k : Kind) (ss : List Shape) (s : State) (t : Lent) : Type 0 where
  pub among : Among (state_kind (next_state s t)) (lent_shape t)
  pub behind : Behind (state_kind (next_state s t)) (ss ++ lent_shape t ∷ []) (next_state s t)
  pub fine : state_fine (next_state s t) ≡ true
  pub appended : records (state_kind (next_state s t)) (ss ++ lent_shape t ∷ []) ≡ records k ss ++ record_of s t
  pub indexed : entries (ss ++ lent_shape t ∷ []) ≡ entries ss ++ entry_of s t
  pub pair : IsPair (state_kind (next_state s t)) (box_bits (settled (next_state s t).bbox)) (ss ++ lent_shape t ∷ [])
      (shp_header (next_state s t) ++ (records k ss ++ record_of s t))
      (shx_header (next_state s t) ++ (entries ss ++ entry_of s t))

-- a fresh state is behind no shapes, of whatever kind
abbrev pub Beginning : Type 0
Beginning = (k : Kind) → Behind k [] fresh

-- every add that is taken, into whatever buffers, on a state behind shapes
abbrev pub Appending : Type 0
Appending = (k : Kind) (ss : List Shape) (s : State) (t : Lent) (out start entry n : ℕ) → Behind k ss s → adding_of s t out start entry ≡ gives n → OneMore k ss s t
