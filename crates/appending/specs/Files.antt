-- A file that grows record by record: its kind is that of its first shape, and at any time its headers, records and entries make a pair.
use Rattle.std.specs.Prelude.{◌≡◌, true, ℕ}
use mathlib.Core.List.{List, [], ◌∷◌, ◌++◌}
use Rattle.format.specs.declared.kinds.Kind.{Kind}
use Rattle.format.specs.Encoding.{end_from, Held, IsPair}
use Rattle.format.specs.Kinds.{null_kind}
use Rattle.format.specs.Said.{gives}
use Rattle.format.specs.Shapes.{Shape, Among}
use Rattle.header.specs.Box.{box_bits}
use Rattle.boxes.specs.Boxes.{settled}
use Rattle.writer.specs.declared.State.{State}
use Rattle.writer.specs.Adding.{Lent, lent_kind, lent_shape, record_of, entry_of, next_state, adding_of}
use Rattle.writer.specs.Finishing.{shp_header, shx_header}
use Rattle.writer.specs.State.{fresh, state_fine}
use Rattle.appending.specs.OneMore.{Behind, records, entries}

-- without a shape the kind of a file is Null's
abbrev pub NullWithout : Kind → List Shape → Type 0
NullWithout k [] = k ≡ null_kind
NullWithout k (s ∷ ss) = Unit {0}

-- the state is the one behind these shapes of a file of that kind, and an i32 field holds the word behind the last of them
pub record FileBehind (k : Kind) (ss : List Shape) (s : State) : Type 0 where
  pub behind : Behind k ss s
  pub without : NullWithout k ss
  pub end_held : Held (end_from 50 ss)

-- a fresh state is behind no shapes
abbrev pub FileBeginning : Type 0
FileBeginning = FileBehind null_kind [] fresh

-- with the finished headers of a state in front, the records and the entries of the shapes that it is behind are their pair of files
abbrev pub PairBehind : Type 0
PairBehind =
    (k : Kind) (ss : List Shape) (s : State) → FileBehind k ss s → state_fine s ≡ true
    → IsPair k (box_bits (settled s.bbox)) ss (shp_header s ++ records k ss) (shx_header s ++ entries ss)

-- the kind of a file with one shape more: that of the shapes before it; the first one's own
abbrev pub kind_with : Kind → List Shape → Lent → Kind
kind_with k [] t = lent_kind t
kind_with k (s ∷ ss) t = k

-- One shape more: it is of the file's kind, or Null, the next state is the one behind it, and finishing does not refuse that state. The records with
-- the new one behind them are those of the longer list, so are the entries, and with the finished headers in front they are its pair of files.
pub record OneInFile (k : Kind) (ss : List Shape) (s : State) (t : Lent) : Type 0 where
  pub among : Among (kind_with k ss t) (lent_shape t)
  pub behind : FileBehind (kind_with k ss t) (ss ++ lent_shape t ∷ []) (next_state s t)
  pub fine : state_fine (next_state s t) ≡ true
  pub appended : records (kind_with k ss t) (ss ++ lent_shape t ∷ []) ≡ records k ss ++ record_of s t
  pub indexed : entries (ss ++ lent_shape t ∷ []) ≡ entries ss ++ entry_of s t
  pub pair : IsPair (kind_with k ss t) (box_bits (settled (next_state s t).bbox)) (ss ++ lent_shape t ∷ [])
      (shp_header (next_state s t) ++ (records k ss ++ record_of s t))
      (shx_header (next_state s t) ++ (entries ss ++ entry_of s t))

-- every add that is taken, into whatever buffers, on a state behind the shapes of a file
abbrev pub AppendingToFile : Type 0
AppendingToFile =
    (k : Kind) (ss : List Shape) (s : State) (t : Lent) (out start entry n : ℕ) → FileBehind k ss s → adding_of s t out start entry ≡ gives n
    → OneInFile k ss s t
