-- How long the records of a list of well-formed shapes are, and where each of them stands.
use mathlib.Core.Path.{◌≡◌}
use mathlib.Core.List.{List, [], ◌∷◌}
use Prim.Native.Nat.{ℕ, zero, suc, ◌+◌, ◌*◌, ◌<◌}
use native.Mathlib.Nat.{add-zero}
use native.Mathlib.Omega.{arith}
use lib.ListN.{length, get_or, take, length-append}
use Rattle.format.specs.declared.kinds.Kind.{Kind}
use Rattle.format.specs.Encoding.{shape_words, record_bytes, records_from, end_from}
use Rattle.format.specs.Shapes.{Shape, null, own_kind, Among}
use Rattle.format.proofs.Equations.{records-nil, records-cons, end_nil, end_cons}
use Rattle.format.proofs.Laid.{length_record}
use Rattle.format.proofs.Places.{Stands, front, back}
use Rattle.format.proofs.Records.{word_of}
use Rattle.rules.specs.Meaning.{AllWellFormed}

pub length-records : (k : Kind) (n w : ℕ) (ss : List Shape) → AllWellFormed k ss → 2 * w + length (records_from k n ss) ≡ 2 * end_from w ss
length-records k n w [] f = rw (records-nil k n, end_nil w) (omega arith)
length-records k n w (s ∷ ss) f =
    rw (records-cons k n s ss, end_cons w s ss)
    (omega (arith, length-append (record_bytes (own_kind k s) n s) (records_from k (n + 1) ss), length_record (own_kind k s) n s f.0, length-records k (n + 1) (w + (4 + shape_words s)) ss f.2))

pub record_placed : (k : Kind) (n w : ℕ) (ss : List Shape) (s : List ℕ) (i : ℕ) → AllWellFormed k ss → Stands (2 * w) (records_from k n ss) s → i < length ss
    → Stands (2 * word_of w ss i) (record_bytes (own_kind k (get_or ss i null)) (n + i) (get_or ss i null)) s
record_placed k n w [] s i f st h = absurd (omega arith)
record_placed k n w (q ∷ ss) s zero f st h =
    rw (end_nil w, add-zero)
    (front (2 * w) (8 + 2 * shape_words q) (record_bytes (own_kind k q) n q) (records_from k (n + 1) ss) s (length_record (own_kind k q) n q f.0) (rw (records-cons k n q ss) at st))
record_placed k n w (q ∷ ss) s (suc i) f st h =
    let place : 2 * w + (8 + 2 * shape_words q) ≡ 2 * (w + (4 + shape_words q)) = omega arith in
    let number : n + 1 + i ≡ n + suc i = omega arith in
    let behind = back (2 * w) (8 + 2 * shape_words q) (record_bytes (own_kind k q) n q) (records_from k (n + 1) ss) s (length_record (own_kind k q) n q f.0) (rw (records-cons k n q ss) at st) in
    rw (end_cons w q (take i ss), ← number) (record_placed k (n + 1) (w + (4 + shape_words q)) ss s i f.2 (rw place at behind) (omega arith))

pub kind_at : (k : Kind) (ss : List Shape) (i : ℕ) → AllWellFormed k ss → i < length ss → Among k (get_or ss i null)
kind_at k [] i f j = absurd (omega arith)
kind_at k (q ∷ ss) zero f j = f.0
kind_at k (q ∷ ss) (suc i) f j = kind_at k ss i f.2 (omega arith)
