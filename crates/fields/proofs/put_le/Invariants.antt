-- storing the bytes that are left, from place i on, gives the output with all of them
use Rattle.std.proofs.Common.{◌≡◌, ◌+◌, ◌-◌}
use Rattle.std.proofs.lemmas.List.Edits.{sets}
use Rattle.format.specs.Bytes.{le_bytes}
use Rattle.fields.proofs.put_le.Given as goal

abbrev pub invariant-loop-i : goal.invariant-loop-i
invariant-loop-i l = sets l.out (l.at + l.i) (le_bytes (l.k - l.i) l.v) ≡ sets l.fn.out l.at (le_bytes l.k l.x)
