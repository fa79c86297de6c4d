-- A refusal as a struct of document 01's number and its values, and what stands beside it: the value that is given, or zeros.
use Rattle.std.specs.Prelude.{List, [], ◌∷◌, ℕ, suc, ◌-◌, ◌^◌, ℤ, pos, negsuc}
use Rattle.format.specs.Said.{Said, gives, refuses}
use Rattle.export.specs.declared.refusals.Refusal.{Refusal}

-- a number crosses as it is; a code below 0 as its 32 bits
abbrev pub crossing : ℤ → ℕ
crossing (pos n) = n
crossing (negsuc n) = 2 ^ 32 - suc n

abbrev pub first_of : List ℤ → ℕ
first_of [] = 0
first_of (value ∷ more) = crossing value

abbrev pub second_of : List ℤ → ℕ
second_of [] = 0
second_of (value ∷ more) = first_of more

-- the refusal with this number and these values; a value that it does not have is 0
abbrev pub refusal : ℕ → List ℤ → Refusal
refusal n values = record { number = n; first = first_of values; second = second_of values }

abbrev pub not_refused : Refusal
not_refused = refusal 0 []

module _ {A : Type 0} where
  abbrev pub refusal_of : Said A → Refusal
  refusal_of (gives a) = not_refused
  refusal_of (refuses n values) = refusal n values

  -- the value that is given, or else zeros
  abbrev pub or_else : A → Said A → A
  or_else zeros (gives a) = a
  or_else zeros (refuses n values) = zeros
