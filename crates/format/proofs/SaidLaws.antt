-- How a crate shows that what is said fixes the answer: an answer can be told again from what it says.
use mathlib.Core.Path.{◌≡◌, sym, ap, ◌∙◌}
use mathlib.Core.List.{List, [], ◌∷◌}
use lib.IntN.{ℤ, pos}
use Rattle.format.specs.Said.{Said}

-- the first value that a refusal returns
abbrev pub value : List ℤ → ℤ
value [] = pos 0
value (z ∷ zs) = z

-- and the second
abbrev pub second : List ℤ → ℤ
second [] = pos 0
second (z ∷ zs) = value zs

pub told_one : {A B : Type 0} (said : A → Said B) (tell : Said B → A) → ((a : A) → tell (said a) ≡ a) → (a b : A) → said a ≡ said b → a ≡ b
told_one said tell back a b e = sym (back a) ∙ (ap tell e ∙ back b)
