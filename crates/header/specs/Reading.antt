-- Reading a header: its fields are taken in file order, and the first one cut or wrong decides.
use Rattle.std.specs.Prelude.{Bool, false, cond, List, ◌∷◌, ℕ, eqb, leb, ℤ, pos, negsuc, Result, Ok, Err}
use Rattle.std.specs.Int.Signed.{non_neg}
use Rattle.format.specs.Kinds.{known}
use Rattle.format.specs.Numbers.{be_i32, le_i32}
use Rattle.format.specs.Order.{first, field_at, fields_from}
use Rattle.format.specs.Said.{Said, gives, short, other_code, wrong_size, unknown}
use Rattle.header.specs.declared.Header.{Header}
use Rattle.header.specs.declared.HeaderError.{HeaderError}
use Rattle.header.specs.declared.HeaderError.TheVariants.{Short, Code, Size, Unknown}
use Rattle.header.specs.Box.{box_at}

-- the answers in document 01's terms
abbrev pub said : Result Header HeaderError → Said Header
said (Ok h) = gives h
said (Err (Short e)) = short e.at e.present
said (Err (Code code)) = other_code code
said (Err (Size at)) = wrong_size at
said (Err (Unknown code)) = unknown code

abbrev pub is9994 : ℤ → Bool
is9994 (pos n) = eqb n 9994
is9994 (negsuc n) = false

-- what the fields hold
abbrev pub header_in : List ℕ → Header
header_in s =
    record {
      file_length = record { 0 = be_i32 24 s };
      version = le_i32 28 s;
      shape_type = le_i32 32 s;
      bbox = box_at 36 s;
    }

-- 0 the code; 4 twenty unused bytes, one field; 24 the length, not negative; 28 the version, not judged; 32 the kind; 36 the box
abbrev pub header_tests : List ℕ → List (Bool × Said Header)
header_tests s =
    field_at 4 0 s short
    ∷ (is9994 (be_i32 0 s), other_code (be_i32 0 s))
    ∷ field_at 20 4 s short
    ∷ field_at 4 24 s short
    ∷ (non_neg (be_i32 24 s), wrong_size 24)
    ∷ field_at 4 28 s short
    ∷ field_at 4 32 s short
    ∷ (known (le_i32 32 s), unknown (le_i32 32 s))
    ∷ fields_from 8 8 36 s short

unfoldable pub header_of : List ℕ → Said Header
header_of s = first (header_tests s) (gives (header_in s))

-- how wide the field at a place is: the unused bytes have twenty, a double of the box eight, and each other field four
abbrev pub header_width : ℕ → ℕ
header_width at = cond (eqb at 4) 20 (cond (leb 36 at) 8 4)
