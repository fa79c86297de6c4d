-- Every index entry of a file names its own record, and there stands its shape.
use mathlib.Core.Path.{◌≡◌}
use mathlib.Core.List.{List}
use Prim.Native.Nat.{ℕ, ◌+◌, ◌*◌, ◌-◌, ◌≤◌, ◌<◌}
use native.Mathlib.Omega.{arith}
use lib.ListN.{length, get_or}
use Rattle.format.specs.declared.kinds.Kind.{Kind}
use Rattle.format.specs.Encoding.{Box, shape_words, content, two_big, record_bytes, records_from, Held}
use Rattle.format.specs.Shapes.{Shape, null, OfKind, own_kind}
use Rattle.format.proofs.Laid.{length-content, length_record}
use Rattle.format.proofs.NumberLaws.{length_two}
use Rattle.format.proofs.Places.{Stands, all_behind, field_stands, stands_within}
use Rattle.format.proofs.Records.{first_read, second_read, in_header, in_content, entries_bytes, word_of, entry_placed, held_at}
use Rattle.rules.specs.Meaning.{FileOf}
use Rattle.meaning.specs.Consequences.{entry_at, offset_of, extent_of, NamesRecord, HoldsShape}
use Rattle.meaning.proofs.Always.{records-behind, entries-behind}
use Rattle.meaning.proofs.EachRecord.{record_placed, kind_at}

module _ (kind : Kind) (box : Box) (ss : List Shape) (shp shx : List ℕ) (f : FileOf kind box ss shp shx) (i : ℕ) (inside : i < length ss) where
  abbrev s : Shape
  s = get_or ss i null

  -- its own kind
  abbrev own : Kind
  own = own_kind kind s

  -- the word at which record 1 + i stands
  w : ℕ
  w = word_of 50 ss i

  of_kind : OfKind own s
  of_kind = kind_at kind ss i f.fine inside

  held : Held (1 + i) × Held w × Held (shape_words s)
  unfolding w
  held = held_at 1 50 ss i f.is.held inside

  in_shp : Stands (2 * w) (record_bytes own (1 + i) s) shp
  unfolding w
  in_shp = record_placed kind 1 50 ss shp i f.fine (all_behind 100 (records_from kind 1 ss) shp (records-behind kind box ss shp shx f)) inside

  in_shx : Stands (100 + 8 * i) (two_big w (shape_words s)) shx
  unfolding w
  in_shx = entry_placed 100 50 ss shx i (all_behind 100 (entries_bytes 50 ss) shx (entries-behind kind box ss shp shx f)) inside

  place : entry_at (1 + i) ≡ 100 + 8 * i
  place = omega arith

  offset : offset_of (1 + i) shx ≡ w
  offset = rw place (first_read w (shape_words s) (100 + 8 * i) shx in_shx (omega (arith, held)))

  extent : extent_of (1 + i) shx ≡ shape_words s
  extent = rw place (second_read w (shape_words s) (100 + 8 * i) shx in_shx (omega (arith, held)))

  header : Stands (2 * w) (two_big (1 + i) (shape_words s)) shp
  header = in_header own (1 + i) s shp (2 * w) in_shp

  names : NamesRecord shp shx (1 + i)
  names =
      let lr = length_record own (1 + i) s of_kind in
      let lt = length_two w (shape_words s) in
      record {
        number = rw offset (first_read (1 + i) (shape_words s) (2 * w) shp header (omega (arith, held)));
        extent = rw (offset, extent) (second_read (1 + i) (shape_words s) (2 * w) shp header (omega (arith, held)));
        entry_within = rw place (omega (arith, stands_within (100 + 8 * i) (two_big w (shape_words s)) shx in_shx (omega arith)));
        record_within = rw (offset, extent) (omega (arith, stands_within (2 * w) (record_bytes own (1 + i) s) shp in_shp (omega arith)));
      }

  holds : HoldsShape kind shp shx (1 + i) s
  holds =
      rw (offset, extent)
      (field_stands (2 * w + 8) (content own s) shp (2 * shape_words s) (length-content own s of_kind) (in_content own (1 + i) s shp (2 * w) in_shp))

module _ (kind : Kind) (box : Box) (ss : List Shape) (shp shx : List ℕ) (f : FileOf kind box ss shp shx) (k : ℕ) (h : 1 ≤ k) (j : k ≤ length ss) where
  number : 1 + (k - 1) ≡ k
  number = omega arith

  pub entry_names : NamesRecord shp shx k
  entry_names = rw number at (names kind box ss shp shx f (k - 1) (omega arith))

  pub record_holds : HoldsShape kind shp shx k (get_or ss (k - 1) null)
  record_holds = rw number at (holds kind box ss shp shx f (k - 1) (omega arith))
