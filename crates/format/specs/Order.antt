-- "The first one cut or wrong decides": tests in order, each with the refusal that it gives where it fails.
use Rattle.std.specs.Prelude.{Bool, cond, List, [], ◌∷◌, ℕ, zero, suc, ◌+◌, leb, length}
use Rattle.format.specs.Bytes.{field}

-- the field of n bytes from a place on lies within the bytes
abbrev pub whole : ℕ → ℕ → List ℕ → Bool
whole n at s = leb (at + n) (length s)

module _ {A : Type 0} where
  -- the refusal of the first test that fails; where all pass, the answer
  abbrev pub first : List (Bool × A) → A → A
  first [] answer = answer
  first (t ∷ ts) answer = cond t.0 (first ts answer) t.1

  -- the field of n bytes from a place on, which has to be whole; `short` is the refusal that names its place and how many of its bytes are present
  abbrev pub field_at : ℕ → ℕ → List ℕ → (ℕ → ℕ → A) → Bool × A
  field_at n at s short = (whole n at s, short at (length (field n at s)))

  -- n fields of w bytes each
  abbrev pub fields_from : ℕ → ℕ → ℕ → List ℕ → (ℕ → ℕ → A) → List (Bool × A)
  fields_from w zero at s short = []
  fields_from w (suc n) at s short = field_at w at s short ∷ fields_from w n (at + w) s short
