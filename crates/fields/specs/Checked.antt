-- Reading a field that the bytes may end inside.
use Rattle.std.specs.Prelude.{◌≡◌, true, false, List, ℕ, ◌+◌, ◌*◌, ◌-◌, ◌/◌, ◌%◌, ◌≤◌, ◌<◌, length, Result, Ok, Err}
use Rattle.format.specs.declared.shapes.Short.{Short}
use Rattle.format.specs.Bytes.{field}
use Rattle.format.specs.Order.{whole}

-- the field of n bytes at a place holds the value, where it is whole; else it is named by its place and by how many of its bytes are present
abbrev pub Reads : {A : Type 0} → ℕ → ℕ → List ℕ → A → Result A Short → Type 0
Reads n at s value (Ok x) = (whole n at s ≡ true) × (x ≡ value)
Reads n at s value (Err e) = (whole n at s ≡ false) × (e ≡ record { at = at; present = length (field n at s) })

-- where n fields of a width end, from a place on, if so many bytes are there; or which of them is cut, and how many of its bytes are there
abbrev pub FieldsEnd : ℕ → ℕ → ℕ → ℕ → Result ℕ Short → Type 0
FieldsEnd width n at size (Ok end) = (end ≡ at + width * n) × (end ≤ size)
FieldsEnd width n at size (Err e) = (size < at + width * n) × (e ≡ record { at = at + (size - at) / width * width; present = (size - at) % width })
