-- The writer's state: the words written so far, the next record's number, the kind, the points written so far and the box.
use Rattle.std.specs.Prelude.{Bool, false, ◌&&◌, ◌||◌, not, ℕ, ◌+◌, ◌*◌, ◌-◌, leb, eqb, ℤ, pos, negsuc, nat_abs}
use Rattle.std.specs.Int.Signed.{non_neg}
use Rattle.format.specs.Lengths.{form_at}
use Rattle.format.specs.Shapes.{there}
use Rattle.boxes.specs.Boxes.{zero_box}
use Rattle.writer.specs.declared.State.{State}

-- words from 50, next number from 1, kind from 0, points from 0, box from zeros
abbrev pub fresh : State
fresh = record { words = record { 0 = pos 50 }; number = pos 1; kind = pos 0; points = 0; bbox = zero_box }

-- the number is at least n
abbrev pub at_least : ℕ → ℤ → Bool
at_least n z = non_neg z && leb n (nat_abs z)

abbrev pub is_zero : ℤ → Bool
is_zero (pos n) = eqb n 0
is_zero (negsuc n) = false

-- words at least 50 (its type keeps them within i32), number at least 1, a taken kind, words at least 50 + 6(number - 1), points that do not exceed
-- the words, and a state of kind 0 is at its start
unfoldable pub state_fine : State → Bool
state_fine s =
    at_least 50 s.words.0
    && at_least 1 s.number
    && there (form_at s.kind)
    && leb (50 + 6 * (nat_abs s.number - 1)) (nat_abs s.words.0)
    && leb s.points (nat_abs s.words.0)
    && (not (is_zero s.kind) || (eqb (nat_abs s.words.0) 50 && eqb (nat_abs s.number) 1))
