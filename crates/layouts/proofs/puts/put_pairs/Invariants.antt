-- Storing the pairs that are left gives the output with all of them.
use Rattle.std.proofs.Common.{◌≡◌, ◌+◌, ◌*◌, length, drop}
use Rattle.std.proofs.lemmas.List.Edits.{sets}
use Rattle.layouts.specs.Steps.{pairs_bytes}
use Rattle.layouts.proofs.puts.put_pairs.Given as goal

abbrev pub invariant-loop-i : goal.invariant-loop-i
invariant-loop-i l =
    record {
      as_long : length l.out ≡ length l.fn.out;
      stored : sets l.out (l.at + 16 * length l.yielded) (pairs_bytes (drop (length l.yielded) l.xs) (drop (length l.yielded) l.ys)) ≡ sets l.fn.out l.at (pairs_bytes l.xs l.ys);
    }
