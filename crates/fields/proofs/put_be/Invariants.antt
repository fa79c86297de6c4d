-- storing the bytes that are left, those in front of place i, gives the output with all of them
use Rattle.std.proofs.Common.{◌≡◌}
use Rattle.std.proofs.lemmas.List.Edits.{sets}
use Rattle.format.specs.Bytes.{be_bytes}
use Rattle.fields.proofs.put_be.Given as goal

abbrev pub invariant-loop-i : goal.invariant-loop-i
invariant-loop-i l = sets l.out l.at (be_bytes l.i l.v) ≡ sets l.fn.out l.at (be_bytes l.k l.x)
