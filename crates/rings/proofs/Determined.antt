-- The contracts determine the answers: two answers that say the same are the same, since each answer is read back from what it says.
use mathlib.Core.Path.{◌≡◌, refl, sym, ◌∙◌}
use mathlib.Core.Bool.{Bool}
use mathlib.Core.List.{List, [], ◌∷◌}
use Prim.Native.Nat.{ℕ}
use lib.Ieee.{Float}
use lib.IntN.{nat_abs}
use Rattle.format.specs.Said.{Said, gives, refuses}
use Rattle.format.proofs.SaidLaws.{told_one}
use Rattle.std.specs.Prelude.{Result, Ok, Err}
use Rattle.rings.specs.declared.TooFew.{TooFew}
use Rattle.rings.specs.declared.RingType.{RingType}
use Rattle.rings.specs.declared.RingType.TheVariants.{OuterRing, InnerRing}
use Rattle.rings.specs.declared.CloseError.{CloseError}
use Rattle.rings.specs.declared.CloseError.TheVariants.{Tables, Room}
use Rattle.rings.specs.Points.{Turning, outer, inner}
use Rattle.rings.specs.Answers.{said_closed, said_turning, said_closing, Closing}

-- ---- closed

read_closed : Said Bool → Result Bool TooFew
read_closed (gives b) = Ok b
read_closed (refuses number values) = Err (record {})

back-closed : (a : Result Bool TooFew) → read_closed (said_closed a) ≡ a
unfolding read_closed
back-closed (Ok b) = refl
back-closed (Err few) = refl

pub one_closed : (a b : Result Bool TooFew) → said_closed a ≡ said_closed b → a ≡ b
one_closed = told_one said_closed read_closed back-closed

-- ---- turning

read_turning : Said Turning → Result RingType TooFew
read_turning (gives outer) = Ok OuterRing
read_turning (gives inner) = Ok InnerRing
read_turning (refuses number values) = Err (record {})

back-turning : (a : Result RingType TooFew) → read_turning (said_turning a) ≡ a
unfolding read_turning
back-turning (Ok OuterRing) = refl
back-turning (Ok InnerRing) = refl
back-turning (Err few) = refl

pub one_turning : (a b : Result RingType TooFew) → said_turning a ≡ said_turning b → a ≡ b
one_turning = told_one said_turning read_turning back-turning

-- ---- closing, with the stores

read_closing : Said ℕ → Result ℕ CloseError
read_closing (gives n) = Ok n
read_closing (refuses number (parts ∷ points ∷ values)) = Err (Room (nat_abs points))
read_closing (refuses number (value ∷ [])) = Err Tables
read_closing (refuses number []) = Err Tables

back-closing : (a : Result ℕ CloseError) → read_closing (said_closing a) ≡ a
unfolding read_closing
back-closing (Ok n) = refl
back-closing (Err Tables) = refl
back-closing (Err (Room n)) = refl

pub one_closing : (a b : Result ℕ CloseError) → said_closing a ≡ said_closing b → a ≡ b
one_closing = told_one said_closing read_closing back-closing

pub one_result : (xs ys : List Float) (n : ℕ) (a b : Result ℕ CloseError) (xs₁ ys₁ xs₂ ys₂ : List Float) → Closing xs ys n a xs₁ ys₁ → Closing xs ys n b xs₂ ys₂ → (a ≡ b) × (xs₁ ≡ xs₂) × (ys₁ ≡ ys₂)
one_result xs ys n a b xs₁ ys₁ xs₂ ys₂ p q = (one_closing a b (p.answered ∙ sym q.answered), cc, cc)
