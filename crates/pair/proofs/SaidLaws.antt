-- What is said fixes the verdict.
use mathlib.Core.Path.{◌≡◌, refl}
use mathlib.Core.List.{List, [], ◌∷◌}
use Rattle.std.specs.Prelude.{Result, Ok, Err}
use lib.IntN.{ℤ, nat_abs}
use Rattle.format.specs.Said.{Said, gives, refuses}
use Rattle.format.proofs.SaidLaws.{value, told_one}
use Rattle.rules.specs.Rules.{Counts}
use Rattle.pair.specs.declared.Fault.{Fault}
use Rattle.pair.specs.declared.Totals.{Totals}
use Rattle.pair.specs.Verdicts.{said_verdict}

-- the second value that a refusal returns
second : List ℤ → ℤ
second [] = value []
second (z ∷ zs) = value zs

tell : Said Counts → Result Totals Fault
tell (gives c) = Ok (record { records = c.records; parts = c.parts; points = c.points })
tell (refuses n vs) = Err (record { rule = nat_abs (value vs); «record» = nat_abs (second vs) })

pub said_verdict_one : (a b : Result Totals Fault) → said_verdict a ≡ said_verdict b → a ≡ b
unfolding tell second
said_verdict_one = told_one said_verdict tell back
  where
    back : (a : Result Totals Fault) → tell (said_verdict a) ≡ a
    back (Ok t) = refl
    back (Err f) = refl
