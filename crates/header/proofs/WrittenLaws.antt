-- What is written of a header with version 1000 and a known kind: the paper's bytes, by the numbers that went in.
use mathlib.Core.Path.{◌≡◌, ap, ◌∙◌}
use mathlib.Core.Bool.{Bool, true, cond}
use Prim.Native.Nat.{ℕ}
use lib.IntN.{ℤ, pos}
use mathlib.Core.List.{List}
use Rattle.std.specs.Prelude.{Result, Ok, Err}
use Rattle.format.specs.declared.kinds.UnknownKind.{UnknownKind}
use Rattle.format.specs.Said.{gives, unknown}
use Rattle.format.specs.Encoding.{header_bytes}
use Rattle.format.specs.Kinds.{known}
use Rattle.header.specs.declared.bbox.BBoxZ.{BBoxZ}
use Rattle.header.specs.declared.Header.{Header}
use Rattle.header.specs.Box.{box_bits}
use Rattle.header.specs.Writing.{bytes_of, said_wrote, WritesHeader}

abbrev header_of : ℤ → ℤ → ℤ → BBoxZ → Header
header_of w v k b = record { file_length = record { 0 = w }; version = v; shape_type = k; bbox = b }

-- what is said to be written is
written : (r : Result (List ℕ) UnknownKind) (bytes : List ℕ) → said_wrote r ≡ gives bytes → r ≡ Ok bytes
written (Ok l) bytes e = cc
written (Err f) bytes e = cc

pub header_is : (w v k : ℤ) (b : BBoxZ) (r : Result (List ℕ) UnknownKind) → WritesHeader (header_of w v k b) r → (n c : ℕ) (d : BBoxZ) → w ≡ pos n → v ≡ pos 1000 → k ≡ pos c → b ≡ d → known (pos c) ≡ true → r ≡ Ok (header_bytes n 1000 c (box_bits d))
unfolding bytes_of
header_is w v k b r h n c d p q i e t = written r _ (h ∙ (ap (λ (x : Bool). cond x (gives (bytes_of (header_of w v k b))) (unknown k)) (ap known i ∙ t) ∙ rw (p, q, i, e)))
