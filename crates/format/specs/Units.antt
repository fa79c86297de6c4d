-- Lengths in words and in bytes: a word is two bytes.
use Rattle.std.specs.Prelude.{Bool, false, ◌&&◌, [], ◌∷◌, ◌^◌, ltb, eqb, ℤ, pos, negsuc, ◌+ℤ◌, Result, Ok, Err}
use Rattle.std.specs.Int.Signed.{mag, shr_z}
use Rattle.format.specs.declared.units.Words.{Words}
use Rattle.format.specs.declared.units.Bytes.{Bytes}
use Rattle.format.specs.declared.units.NotWords.{NotWords}
use Rattle.format.specs.Order.{first}
use Rattle.format.specs.Said.{Said, gives, wrong_size}

-- the two numbers are equal
abbrev pub same_int : ℤ → ℤ → Bool
same_int (pos a) (pos b) = eqb a b
same_int (pos a) (negsuc b) = false
same_int (negsuc a) (pos b) = false
same_int (negsuc a) (negsuc b) = eqb a b

-- an i32 holds the number
abbrev pub in_i32 : ℤ → Bool
in_i32 z = ltb (mag z) (2 ^ 31)

abbrev pub in_bytes : Words → Bytes
in_bytes w = record { 0 = w.0 +ℤ w.0 }

-- what `Words::try_from` answers
abbrev pub said_words : Result Words NotWords → Said Words
said_words (Ok w) = gives w
said_words (Err e) = wrong_size 0

-- half of the bytes, rounded down
abbrev pub half : Bytes → ℤ
half b = shr_z b.0 2

-- a size that is no number of words is 3: one that is odd, or whose half an i32 does not hold
unfoldable pub in_words : Bytes → Said Words
in_words b = first ((in_i32 (half b) && same_int (half b +ℤ half b) b.0, wrong_size 0) ∷ []) (gives (record { 0 = half b }))
