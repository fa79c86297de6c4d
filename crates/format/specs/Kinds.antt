-- The fourteen kinds of shape, as document 01's table has them: the code, and whether the kind has z, m and parts.
use Rattle.std.specs.Prelude.{Bool, true, false, cond, List, [], ◌∷◌, ℕ, suc, eqb, length, ℤ, pos, negsuc, Result, Ok, Err}
use Rattle.std.specs.Prelude as Std
use Rattle.std.proofs.Math.Option.{Option, none, some}
use Rattle.std.proofs.Math.ListN.{get_elem?}
use Rattle.format.specs.declared.kinds.Kind.{Kind}
use Rattle.format.specs.declared.kinds.UnknownKind.{UnknownKind}
use Rattle.format.specs.Said.{Said, gives, unknown, is_given}

abbrev pub kind : ℕ → Bool → Bool → Bool → Kind
kind code z m parts = record { code = code; z = z; m = m; parts = parts }

-- Null's kind
abbrev pub null_kind : Kind
null_kind = kind 0 false false false

--     code z     m     parts
unfoldable pub kinds : List Kind
kinds =
    kind 0 false false false
    ∷ kind 1 false false false
    ∷ kind 3 false false true
    ∷ kind 5 false false true
    ∷ kind 8 false false false
    ∷ kind 11 true true false
    ∷ kind 13 true true true
    ∷ kind 15 true true true
    ∷ kind 18 true true false
    ∷ kind 21 false true false
    ∷ kind 23 false true true
    ∷ kind 25 false true true
    ∷ kind 28 false true false
    ∷ kind 31 true true true
    ∷ []

-- where the row with this code stands; after the last, where there is none
unfoldable pub row_of : ℕ → List Kind → ℕ
row_of code [] = 0
row_of code (k ∷ rows) = cond (eqb k.code code) 0 (suc (row_of code rows))

abbrev pub row_at : ℤ → ℕ
row_at (pos n) = row_of n kinds
row_at (negsuc n) = length kinds

-- how many rows a search has passed: those in front of the row that it found, or all
abbrev pub kinds_passed : Std.Option ℕ → ℕ
kinds_passed (Std.Some row) = row
kinds_passed Std.None = length kinds

-- the kind with this code, where the table has it
abbrev pub kind_at : ℤ → Option Kind
kind_at (pos n) = get_elem? kinds (row_of n kinds)
kind_at (negsuc n) = none

-- what is not in the table is refused before its kind is used
abbrev pub kind_or : Option Kind → Kind
kind_or none = null_kind
kind_or (some k) = k

-- what `find_kind` answers, in document 01's terms
abbrev pub said_found : Result Kind UnknownKind → Said Kind
said_found (Ok k) = gives k
said_found (Err e) = unknown e.0

-- the kind with this code; a code that is not in the table is 4
abbrev pub or_unknown : ℤ → Option Kind → Said Kind
or_unknown code none = unknown code
or_unknown code (some k) = gives k

unfoldable pub kind_of : ℤ → Said Kind
kind_of code = or_unknown code (kind_at code)

-- the code is one of the fourteen
unfoldable pub known : ℤ → Bool
known code = is_given (kind_of code)
