-- `multipart::store::store_pairs`: the x and the y that are left to store complete both stores.
use Rattle.std.proofs.Common.{◌≡◌, ◌+◌, ◌*◌, ◌-◌, length}
use lib.Seq.{sets}
use Rattle.format.specs.Numbers.{doubles_at}
use Rattle.multipart.proofs.store.store_pairs.Given as goal

abbrev pub invariant-loop-i : goal.invariant-loop-i
invariant-loop-i l =
    record {
      same_xs : length l.xs ≡ length l.initial.xs;
      same_ys : length l.ys ≡ length l.initial.ys;
      xs_left : sets l.xs l.i (doubles_at 16 (l.points - l.i) (l.at + 16 * l.i) l.s) ≡ sets l.initial.xs 0 (doubles_at 16 l.points l.at l.s);
      ys_left : sets l.ys l.i (doubles_at 16 (l.points - l.i) (l.at + 8 + 16 * l.i) l.s) ≡ sets l.initial.ys 0 (doubles_at 16 l.points (l.at + 8) l.s);
    }
