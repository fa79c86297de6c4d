-- Whatever rule is broken, the refusal is document 01's 8.
use mathlib.Core.List.{List, [], ◌∷◌}
use mathlib.Core.Option.{Option, none, some}
use Prim.Native.Nat.{ℕ, zero, suc, ◌+◌}
use native.Mathlib.Omega.{arith}
use lib.ListN.{length, drop}
use Rattle.format.specs.Said.{Said, Numbered}
use Rattle.rules.specs.Rules.{Taken, Counts, taken_in, headers_fault, record_fault, finish, or_on, walk, walk_from, none_yet, records_verdict, verdict}

finish_numbered : (x : List ℕ) (c : Counts) → Numbered (finish x c)
unfolding finish
finish_numbered [] c = tt
finish_numbered (b ∷ x) c = omega arith

on_numbered : (rule k : ℕ) (on : Said Counts) → Numbered on → Numbered (or_on rule k on)
on_numbered zero k on p = p
on_numbered (suc rule) k on p = omega arith

walk_numbered : (fuel : ℕ) (t : Taken) (l x : List ℕ) (at : ℕ) (c : Counts) → Numbered (walk fuel t l x at c)
unfolding walk
walk_numbered zero t l x at c = finish_numbered x c
walk_numbered (suc fuel) t [] x at c = finish_numbered x c
walk_numbered (suc fuel) t (b ∷ l) x at c = on_numbered (record_fault t (b ∷ l) x at (c.records + 1)) (c.records + 1) _ (walk_numbered fuel t _ _ _ _)

records_numbered : (t : Option Taken) (shp shx : List ℕ) → Numbered (records_verdict t shp shx)
unfolding walk_from
records_numbered none shp shx = omega arith
records_numbered (some t) shp shx = walk_numbered (length (drop 100 shp)) t (drop 100 shp) (drop 100 shx) 100 none_yet

pub verdict_numbered : (shp shx : List ℕ) → Numbered (verdict shp shx)
unfolding verdict
verdict_numbered shp shx = on_numbered (headers_fault shp shx) 0 (records_verdict (taken_in shp) shp shx) (records_numbered (taken_in shp) shp shx)
