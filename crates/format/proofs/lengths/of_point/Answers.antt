-- `format::lengths::of_point` meets its contract: the kind's field and the point's doubles.
use mathlib.Core.Path.{ap}
use Prim.Native.Nat.{ℕ}
use native.Mathlib.Omega.{arith}
use Rattle.format.specs.Lengths.{fixed_words, point_words}
use Rattle.format.proofs.lengths.of_point.Goals as goal

pub returns : goal.returns
unfolding fixed_words point_words
returns c = ap (λ (w : ℕ). record { fixed = w; point = 0 }) (omega (arith, c.point_doubles.ensures.0))
