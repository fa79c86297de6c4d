-- storing the doubles that are left, from the i-th on, gives all of them
use Rattle.std.proofs.Common.{◌≡◌, ◌+◌, ◌*◌, ◌-◌, length}
use Rattle.std.proofs.lemmas.List.Edits.{sets}
use Rattle.format.specs.Numbers.{doubles_at}
use Rattle.fields.proofs.read_doubles.Given as goal

abbrev pub invariant-loop-i : goal.invariant-loop-i
invariant-loop-i l =
    sets l.out l.i (doubles_at 8 (length l.fn.out - l.i) (l.at + 8 * l.i) l.s) ≡ doubles_at 8 (length l.fn.out) l.at l.s
