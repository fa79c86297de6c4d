-- storing the doubles that are left, from the i-th on, gives the output with all of them
use Rattle.std.proofs.Common.{◌≡◌, ◌+◌, ◌*◌, drop}
use Rattle.std.proofs.lemmas.List.Edits.{sets}
use Rattle.format.specs.Numbers.{f64s_le}
use Rattle.fields.proofs.write_doubles.Given as goal

abbrev pub invariant-loop-i : goal.invariant-loop-i
invariant-loop-i l = sets l.out (l.at + 8 * l.i) (f64s_le (drop l.i l.xs)) ≡ sets l.fn.out l.at (f64s_le l.xs)
