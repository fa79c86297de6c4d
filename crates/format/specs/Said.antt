-- What a call answers, in document 01's terms: a value, or a refusal with its number and what it returns ("What comes back").
use Rattle.std.specs.Prelude.{Bool, true, false, List, [], ◌∷◌, ℕ, ◌≤◌, ℤ, pos}

pub data Said (A : Type 0) : Type 0 where
  gives : A → Said A
  refuses : ℕ → List ℤ → Said A

module _ {A : Type 0} where
  -- 1 Short: the bytes end inside the field being read; the offset of that field, and how many of its bytes are present
  abbrev pub short : ℕ → ℕ → Said A
  short at present = refuses 1 (pos at ∷ pos present ∷ [])

  -- 2 Code: the file code is not 9994; the code
  abbrev pub other_code : ℤ → Said A
  other_code code = refuses 2 (code ∷ [])

  -- 3 Size; the offset that document 01 names
  abbrev pub wrong_size : ℕ → Said A
  wrong_size at = refuses 3 (pos at ∷ [])

  -- 4 Unknown: the kind's code is not in the table; the code
  abbrev pub unknown : ℤ → Said A
  unknown code = refuses 4 (code ∷ [])

  -- 5 Mismatch: another kind than the one wanted; the wanted code and the found one
  abbrev pub mismatch : ℤ → ℤ → Said A
  mismatch wanted found = refuses 5 (wanted ∷ found ∷ [])

  -- 6 Room: a lent store or output is too small; the parts and points needed, or the bytes
  abbrev pub room : ℕ → ℕ → Said A
  room parts points = refuses 6 (pos parts ∷ pos points ∷ [])

  abbrev pub room_bytes : ℕ → Said A
  room_bytes bytes = refuses 6 (pos bytes ∷ [])

  -- 7 Long: a count over 2,147,483,647, or a file over that many words; 0
  abbrev pub long : Said A
  long = refuses 7 (pos 0 ∷ [])

  -- 8 Fault: the pair checker's no; the rule and the record's number
  abbrev pub fault : ℕ → ℕ → Said A
  fault rule number = refuses 8 (pos rule ∷ pos number ∷ [])

  -- 9 Not taken; the code
  abbrev pub not_taken : ℤ → Said A
  not_taken code = refuses 9 (code ∷ [])

  -- 10 Tables: lent tables disagree in length; 0
  abbrev pub tables : Said A
  tables = refuses 10 (pos 0 ∷ [])

-- the answer is a value
abbrev pub is_given : {A : Type 0} → Said A → Bool
is_given (gives a) = true
is_given (refuses n values) = false

-- what a lent buffer, or a state, is after the call: a refusal leaves it as it was
abbrev pub unless_refused {ℓ} : {A : Type 0} {B : Type ℓ} → Said A → B → B → B
unless_refused (gives a) before after = after
unless_refused (refuses n values) before after = before

-- a refusal has one of document 01's numbers
abbrev pub Numbered : {A : Type 0} → Said A → Type 0
Numbered (gives a) = Unit {0}
Numbered (refuses n values) = (1 ≤ n) × (n ≤ 10)
