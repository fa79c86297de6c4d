-- The refusals of the three readers have document 01's numbers.
use mathlib.Core.List.{List, [], ◌∷◌}
use Prim.Native.Nat.{ℕ}
use native.Mathlib.Omega.{arith}
use lib.IntN.{ℤ}
use Rattle.format.specs.Numbers.{be_i32}
use Rattle.format.specs.Order.{field_at}
use Rattle.format.specs.Said.{gives, short, Numbered}
use Rattle.format.proofs.OrderLaws.{first_numbered}
use Rattle.header.specs.Entries.{two_of}
use Rattle.header.specs.Reading.{header_in, header_tests, header_of}

pub header_numbered : (s : List ℕ) → Numbered (header_of s)
unfolding header_of
header_numbered s = first_numbered (header_tests s) (gives (header_in s)) (omega arith) tt

pub two_numbered : {A : Type 0} (make : ℤ → ℤ → A) (s : List ℕ) → Numbered (two_of make s)
unfolding two_of
two_numbered make s = first_numbered (field_at 4 0 s short ∷ field_at 4 4 s short ∷ []) (gives (make (be_i32 0 s) (be_i32 4 s))) (omega arith) tt
