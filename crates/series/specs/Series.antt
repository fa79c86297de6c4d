-- A series of calls: adds and finishings in any order, refused ones among them, each on the state that the call before it left.
use Rattle.std.specs.Prelude.{List, [], ◌∷◌, ◌++◌, ℕ, Result}
use Rattle.format.specs.Said.{unless_refused}
use Rattle.format.specs.Shapes.{Shape}
use Rattle.writer.specs.declared.State.{State}
use Rattle.writer.specs.declared.Adding.{Adding}
use Rattle.writer.specs.declared.Headers.{Headers}
use Rattle.writer.specs.declared.NoState.{NoState}
use Rattle.writer.specs.Adding.{Lent, lent_shape, said_add, Adds}
use Rattle.writer.specs.Finishing.{Finishes}

-- an add: what it lends, what comes back, and both buffers behind it; where the state is lent, what comes back is `adding` of the answer and of
-- that state behind the call
pub record Add : Type 0 where
  pub lends : Lent
  pub out : List ℕ
  pub start : ℕ
  pub entry : List ℕ
  pub back : Adding
  pub out' : List ℕ
  pub entry' : List ℕ

pub data Call : Type 0 where
  adds : Add → Call
  finishes : Result Headers NoState → Call

-- from this state on, each call meets its contract
abbrev pub Made : State → List Call → Type 0
Made s [] = Unit {0}
Made s (adds a ∷ calls) = Adds s a.lends a.out a.start a.entry a.back a.out' a.entry' × Made a.back.state calls
Made s (finishes f ∷ calls) = Finishes s f × Made s calls

-- the state that the last of them leaves
abbrev pub state_after : State → List Call → State
state_after s [] = s
state_after s (adds a ∷ calls) = state_after a.back.state calls
state_after s (finishes f ∷ calls) = state_after s calls

-- the shape of an add that was accepted, and none of a refused one
abbrev pub shapes_of : Add → List Shape
shapes_of a = unless_refused (said_add a.back.answer) [] (lent_shape a.lends ∷ [])

-- the shapes that have been accepted, in order
abbrev pub accepted : List Call → List Shape
accepted [] = []
accepted (adds a ∷ calls) = shapes_of a ++ accepted calls
accepted (finishes f ∷ calls) = accepted calls
