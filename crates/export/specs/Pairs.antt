-- The pair checker's answer: the fault, or the totals; and what a caller may conclude from it.
use Rattle.std.specs.Prelude.{◌≡◌, Result, Ok, Err, List, ℕ, zero, suc}
use Rattle.format.specs.Said.{Said}
use Rattle.pair.specs.declared.Fault.{Fault}
use Rattle.pair.specs.declared.Totals.{Totals}
use Rattle.pair.specs.Verdicts.{Checks}
use Rattle.rules.specs.Rules.{Counts, none_yet, verdict}
use Rattle.export.specs.declared.pairs.PairChecked.{PairChecked}
use Rattle.export.specs.Refusals.{refusal_of, or_else}

abbrev pub totals : Counts → Totals
totals c = record { records = c.records; parts = c.parts; points = c.points }

abbrev pub pair_checked : Said Counts → PairChecked
pair_checked said = record { refusal = refusal_of said; totals = totals (or_else none_yet said) }

-- the verdict that the struct stands for: number 0 is a yes with the totals, and any other a no with the rule and the record's number
abbrev pub verdict_of : PairChecked → Result Totals Fault
verdict_of r = by_number r.refusal.number
  where
    by_number : ℕ → Result Totals Fault
    by_number zero = Ok r.totals
    by_number (suc n) = Err (record { rule = r.refusal.first; «record» = r.refusal.second })

-- the answer is fixed by the rules, and it means to its caller what the checker's verdict means
pub record ChecksPair (shp shx : List ℕ) (r : PairChecked) : Type 0 where
  pub answer_is : r ≡ pair_checked (verdict shp shx)
  pub means : Checks shp shx (verdict_of r)
