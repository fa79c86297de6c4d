-- Refusal 1 tells where the bytes end, of every call: by what is placed in the crate of each.
use mathlib.Core.Path.{◌≡◌}
use mathlib.Core.List.{List}
use Prim.Native.Nat.{ℕ}
use native.Mathlib.Omega.{arith}
use Rattle.format.specs.Lengths.{form_at}
use Rattle.format.specs.Said.{Said, gives, refuses}
use Rattle.format.proofs.Placed.{Placed}
use Rattle.header.specs.Entries.{two_of, record_header, shape_index}
use Rattle.header.specs.Reading.{header_of, header_width}
use Rattle.header.proofs.Placed.{header_placed, two_placed}
use Rattle.multipart.specs.Answers.{counts_of}
use Rattle.multipart.specs.Body.{body_of, body_width}
use Rattle.multipart.proofs.Placed.{counts_placed, body_placed}
use Rattle.record.specs.Reading.{code_in, record_of, content_width}
use Rattle.record.proofs.Placed.{record_placed}
use Rattle.export.specs.Cut.{read_header, read_record_header, read_index_entry, read_counts, read_body, read_record, EndsInField, CutTells}
use Rattle.export.specs.Refusals.{refusal_of}

inside : {A : Type 0} (width : ℕ → ℕ) (s : List ℕ) (said : Said A) → Placed width s said → (refusal_of said).number ≡ 1 → EndsInField width s (refusal_of said)
inside width s (gives a) p e = absurd (omega arith)
inside width s (refuses n values) p e = let i = p.0 e in rw i.are (record { ends = i.ends; fewer = i.fewer })

pub cut_tells : CutTells
cut_tells read_header s = inside header_width s (header_of s) (header_placed s)
cut_tells read_record_header s = inside (λ at. 4) s (two_of record_header s) (two_placed record_header s)
cut_tells read_index_entry s = inside (λ at. 4) s (two_of shape_index s) (two_placed shape_index s)
cut_tells (read_counts parts) s = inside (body_width parts s) s (counts_of parts s) (counts_placed parts s)
cut_tells (read_body parts z m counts xs ys zs ms) s = inside (body_width parts s) s (body_of parts z m s counts xs ys zs ms) (body_placed parts z m s counts xs ys zs ms)
cut_tells (read_record wanted size counts xs ys zs ms) s =
    inside (content_width (form_at (code_in s)) s) s (record_of wanted size s counts xs ys zs ms) (record_placed wanted size s counts xs ys zs ms)
