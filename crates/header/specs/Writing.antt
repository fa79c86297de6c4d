-- Writing a header: the paper's hundred bytes, with zeros for the unused ones and the version that the header has; an unknown kind is 4.
use Rattle.std.specs.Prelude.{◌≡◌, cond, List, ℕ, Result, Ok, Err}
use Rattle.std.specs.Int.{w32}
use Rattle.std.proofs.Common.{of_z}
use Rattle.format.specs.declared.kinds.UnknownKind.{UnknownKind}
use Rattle.format.specs.Encoding.{header_bytes}
use Rattle.format.specs.Kinds.{known}
use Rattle.format.specs.Said.{Said, gives, unknown}
use Rattle.header.specs.declared.Header.{Header}
use Rattle.header.specs.Box.{box_bits}

unfoldable pub bytes_of : Header → List ℕ
bytes_of h = header_bytes (of_z w32 h.file_length.0) (of_z w32 h.version) (of_z w32 h.shape_type) (box_bits h.bbox)

-- the answer in document 01's terms
abbrev pub said_wrote : Result (List ℕ) UnknownKind → Said (List ℕ)
said_wrote (Ok bytes) = gives bytes
said_wrote (Err e) = unknown e.0

abbrev pub WritesHeader : Header → Result (List ℕ) UnknownKind → Type 0
WritesHeader h r = said_wrote r ≡ cond (known h.shape_type) (gives (bytes_of h)) (unknown h.shape_type)
