-- What a taken kind settles for each record, as the code holds it, and numbers that an i32 field holds.
use Rattle.std.specs.Prelude.{◌≡◌, Bool, true, false, cond, ℕ, zero, suc, ◌^◌, ◌<◌, pos, nat_abs}
use Rattle.std.specs.Prelude as Std
use Rattle.std.proofs.Math.Option.{Option, none, some}
use Rattle.std.specs.Int.{w32}
use Rattle.std.proofs.Common.{to_z}
use Rattle.format.specs.declared.units.Words.{Words}
use Rattle.format.specs.Lengths.{Form, nothing, one_point, many_points, parts, several, front_words, lengths_for}
use Rattle.format.specs.WellFormed.{has_rings, least_points}
use Rattle.rules.specs.Rules.{Taken}
use Rattle.pair.specs.declared.plans.Plan.{Plan}

-- r is the number v, which 32 bits hold
pub record Word (v r : ℕ) : Type 0 where
  pub value : r ≡ v
  pub small : r < 2 ^ 32

-- the words whose bits, 32 of them, are v
abbrev pub field_words : ℕ → Words
field_words v = record { 0 = to_z w32 v }

-- r is these words
pub record Field (v : ℕ) (r : Words) : Type 0 where
  pub value : r ≡ field_words v
  pub small : v < 2 ^ 32

-- words that are not negative
abbrev pub Whole : Words → Type 0
Whole words = words.0 ≡ pos (nat_abs words.0)

abbrev pub has_parts : Form → Bool
has_parts nothing = false
has_parts one_point = false
has_parts many_points = false
has_parts parts = true

-- the points of a record that does not say how many
abbrev pub points_alone : Form → ℕ
points_alone nothing = 0
points_alone one_point = 1
points_alone many_points = 1
points_alone parts = 1

abbrev pub plan_for : Taken → Plan
plan_for t =
    record {
      kind = t.kind;
      several = several t.form;
      parts = has_parts t.form;
      points = points_alone t.form;
      front = front_words t.form 0;
      rings = has_rings t.kind;
      least = least_points t.kind;
      lengths = lengths_for t.kind t.form;
    }

abbrev pub planned : Option Taken → Std.Option Plan
planned none = Std.None
planned (some t) = Std.Some (plan_for t)

-- and the kind that a plan is for
abbrev pub alone : ℕ → Form
alone zero = nothing
alone (suc n) = one_point

abbrev pub taken_from : Plan → Taken
taken_from plan = record { kind = plan.kind; form = cond plan.parts parts (cond plan.several many_points (alone plan.points)) }
