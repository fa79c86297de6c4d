-- The refusals of adding a record, and of finishing, have document 01's numbers.
use mathlib.Core.Bool.{cond}
use Prim.Native.Nat.{ℕ}
use native.Mathlib.Omega.{arith}
use Rattle.format.specs.Said.{gives, wrong_size, Numbered}
use Rattle.format.proofs.OrderLaws.{cond_numbered, first_numbered}
use Rattle.writer.specs.declared.State.{State}
use Rattle.writer.specs.Adding.{Lent, record_size, add_tests, adding_of}
use Rattle.writer.specs.State.{state_fine}

pub adding_numbered : (s : State) (t : Lent) (out start entry : ℕ) → Numbered (adding_of s t out start entry)
unfolding adding_of
adding_numbered s t out start entry = first_numbered (add_tests s t out start entry) (gives (record_size t)) (omega arith) tt

pub finishing_numbered : (s : State) → Numbered (cond (state_fine s) (gives (tt {0})) (wrong_size 0))
finishing_numbered s = cond_numbered (state_fine s) (gives tt) (wrong_size 0) tt (omega arith)
