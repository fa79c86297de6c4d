-- Storing the starts that are left gives the output with all of them.
use Rattle.std.proofs.Common.{◌≡◌, ◌+◌, ◌*◌, length, drop}
use Rattle.std.proofs.lemmas.List.Edits.{sets}
use Rattle.format.specs.Shapes.{sum}
use Rattle.layouts.specs.Steps.{starts_bytes}
use Rattle.layouts.proofs.puts.put_starts.Given as goal

abbrev pub invariant-loop-i : goal.invariant-loop-i
invariant-loop-i l =
    record {
      as_long : length l.out ≡ length l.fn.out;
      counted : l.start + sum (drop l.i l.counts) ≡ sum l.counts;
      stored : sets l.out (l.at + 4 * l.i) (starts_bytes l.start (drop l.i l.counts)) ≡ sets l.fn.out l.at (starts_bytes 0 l.counts);
    }
