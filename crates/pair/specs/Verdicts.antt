-- The checker's answer in document 01's terms, and the faults that its helpers look for.
use Rattle.std.specs.Prelude.{◌≡◌, Result, Ok, Err, List, ℕ, zero, suc, take, drop}
use Rattle.format.specs.declared.kinds.Kind.{Kind}
use Rattle.format.specs.Order.{first}
use Rattle.format.specs.Said.{Said, gives, fault}
use Rattle.rules.specs.Meaning.{Judged}
use Rattle.rules.specs.Rules.{Counts, headers_rules, head_rules, verdict}
use Rattle.meaning.specs.Consequences.{Says}
use Rattle.pair.specs.declared.Fault.{Fault}
use Rattle.pair.specs.declared.Totals.{Totals}

abbrev pub said_verdict : Result Totals Fault → Said Counts
said_verdict (Ok t) = gives (record { records = t.records; parts = t.parts; points = t.points })
said_verdict (Err f) = fault f.rule f.record

-- What the checker promises of its answer: it is the rules' verdict; a yes means that there is one list of shapes whose encoding the two files are,
-- with its counts, and no second one; every index entry then names its own record; and a no names the first fault.
pub record Checks (shp shx : List ℕ) (r : Result Totals Fault) : Type 0 where
  pub by_rules : said_verdict r ≡ verdict shp shx
  pub means : Judged shp shx (said_verdict r)
  pub follows : Says shp shx (said_verdict r)

-- what is there where the first broken rule is 0, and else that rule with the record that breaks it
abbrev pub found : {A : Type 0} → A → ℕ → ℕ → Result A Fault
found a zero k = Ok a
found a (suc rule) k = Err (record { rule = suc rule; «record» = k })

-- the first of P1 to P3, and the first of P5 to P8, that the headers break; 0 for none
unfoldable pub front_fault : List ℕ → List ℕ → ℕ
front_fault shp shx = first (take 3 (headers_rules shp shx)) 0

unfoldable pub back_fault : List ℕ → List ℕ → ℕ
back_fault shp shx = first (drop 4 (headers_rules shp shx)) 0

-- the first of P9 to P12 that a record breaks
unfoldable pub head_fault : Kind → List ℕ → List ℕ → ℕ → ℕ → ℕ
head_fault h l x at k = first (head_rules h l x at k) 0
