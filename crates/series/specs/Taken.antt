-- The adds of a series that were accepted, with what they lent: their shapes are the accepted ones, and the first of them has the kind of the file.
use mathlib.Core.List.{List, [], ◌∷◌, map}
use Rattle.std.specs.Prelude.{◌≡◌}
use Rattle.format.specs.declared.kinds.Kind.{Kind}
use Rattle.format.specs.Kinds.{null_kind}
use Rattle.format.specs.Said.{unless_refused}
use Rattle.format.specs.Shapes.{Shape}
use Rattle.writer.specs.declared.State.{State}
use Rattle.writer.specs.Adding.{lent_kind, lent_shape, said_add, Adds}
use Rattle.series.specs.Series.{Add, Call, adds, finishes, accepted}

-- the add meets its contract on this state
abbrev pub AddMade : State → Add → Type 0
AddMade s a = Adds s a.lends a.out a.start a.entry a.back a.out' a.entry'

-- the adds that were accepted, in order
abbrev pub taken : List Call → List Add
taken [] = []
taken (adds a ∷ calls) = unless_refused (said_add a.back.answer) (taken calls) (a ∷ taken calls)
taken (finishes f ∷ calls) = taken calls

-- their shapes, and the kind of the first of them: without one it is Null's
abbrev pub shapes_taken : List Add → List Shape
shapes_taken added = map (λ (a : Add). lent_shape a.lends) added

abbrev pub first_kind : List Add → Kind
first_kind [] = null_kind
first_kind (a ∷ added) = lent_kind a.lends

-- the accepted shapes are theirs
abbrev pub AcceptedTaken : Type 0
AcceptedTaken = (calls : List Call) → accepted calls ≡ shapes_taken (taken calls)
