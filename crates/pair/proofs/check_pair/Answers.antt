-- The verdict is the rules', and what those mean is proved in `meaning`.
use mathlib.Core.Path.{subst, sym}
use mathlib.Core.List.{List}
use Prim.Native.Nat.{ℕ}
use Rattle.format.specs.Said.{Said}
use Rattle.format.proofs.ByteLaws.{AllBytes, all_bytes}
use Rattle.rules.specs.Meaning.{Judged}
use Rattle.rules.specs.Rules.{Counts}
use Rattle.meaning.specs.Consequences.{Says}
use Rattle.meaning.proofs.Consequences.{says}
use Rattle.meaning.proofs.Theorem.{judged}
use Rattle.pair.proofs.check_pair.Goals as goal

pub returns : goal.returns
returns c =
    let shp : List ℕ = c.args.shp.now in
    let shx : List ℕ = c.args.shx.now in
    let hs : AllBytes shp = all_bytes shp (λ i. (c.type_inv.shp i).fits) in
    let hx : AllBytes shx = all_bytes shx (λ i. (c.type_inv.shx i).fits) in
    let e = c.judge.ensures in
    record {
      by_rules = e;
      means = subst (λ (v : Said Counts). Judged shp shx v) (sym e) (judged shp shx hs hx);
      follows = subst (λ (v : Said Counts). Says shp shx v) (sym e) (says shp shx hs hx);
    }
