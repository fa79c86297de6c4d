-- What follows for an accepted pair: reading record k, where its index entry says, gives shape k.
use mathlib.Core.Path.{◌≡◌, sym, ap, ◌∙◌}
use mathlib.Core.List.{List, [], ◌∷◌}
use Prim.Native.Nat.{ℕ, zero, suc, ◌+◌, ◌*◌, ◌-◌, ◌<◌}
use native.Mathlib.Omega.{arith}
use lib.ListN.{length, get_or}
use Rattle.format.specs.declared.kinds.Kind.{Kind}
use Rattle.format.specs.Encoding.{content, shape_words}
use Rattle.format.specs.Lengths.{nothing}
use Rattle.format.specs.Shapes.{Shape, null, point, multipoint, parted, OfKind, own_kind}
use Rattle.format.specs.WellFormed.{WellFormed}
use Rattle.format.proofs.ByteLaws.{length-field}
use Rattle.format.proofs.Laid.{length-content}
use Rattle.format.proofs.LengthLaws.{null_row, null-form}
use Rattle.rules.specs.Meaning.{TakenKind, AllWellFormed}
use Rattle.meaning.specs.Consequences.{offset_of, extent_of}
use Rattle.meaning.proofs.EachRecord.{kind_at}
use Rattle.meaning.proofs.Entries.{entry_names, record_holds}
use Rattle.readback.specs.ReadBack.{ReadsRecords, content_at}
use Rattle.readback.proofs.Held.{well_held}
use Rattle.readback.proofs.ReadsBack.{reads_back}

well_at : (k : Kind) (ss : List Shape) (i : ℕ) → AllWellFormed k ss → i < length ss → WellFormed k (get_or ss i null)
well_at k [] i f h = absurd (omega arith)
well_at k (s ∷ ss) zero f h = f.1
well_at k (s ∷ ss) (suc i) f h = well_at k ss i f.2 (omega arith)

own-taken : (k : Kind) (s : Shape) → TakenKind k → TakenKind (own_kind k s)
own-taken k null t = record { form = nothing; in_table = null_row; taken = null-form }
own-taken k (point xy z m) t = t
own-taken k (multipoint s) t = t
own-taken k (parted s) t = t

pub reads_records : ReadsRecords
reads_records kind box ss shp shx f k h j small =
    let s : Shape = get_or ss (k - 1) null in
    let own : Kind = own_kind kind s in
    let o : OfKind own s = kind_at kind ss (k - 1) f.fine (omega arith) in
    let holds : content_at k shp shx ≡ content own s = record_holds kind box ss shp shx f k h j in
    let within = (entry_names kind box ss shp shx f k h j).record_within in
    let long = length-field (2 * extent_of k shx) (2 * offset_of k shx + 8) shp (omega arith) in
    let extent : 2 * extent_of k shx ≡ 2 * shape_words s = sym long ∙ (ap length holds ∙ length-content own s o) in
    let back = reads_back own s (own-taken kind s f.kind) o (well_held kind s (well_at kind ss (k - 1) f.fine (omega arith))) (omega arith) in
    rw (holds, extent) back
