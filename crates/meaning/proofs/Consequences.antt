-- What the pair checker's answer says of the bytes: every index entry names its own record, and a no names the first fault.
use mathlib.Core.List.{List}
use Prim.Native.Nat.{ℕ}
use Rattle.format.proofs.ByteLaws.{AllBytes}
use Rattle.rules.specs.Rules.{verdict}
use Rattle.meaning.specs.Consequences.{Says}
use Rattle.meaning.proofs.Entries.{entry_names, record_holds}
use Rattle.meaning.proofs.First.{no_record, record_no, no_header, header_no}
use Rattle.meaning.proofs.Only.{only}

pub says : (shp shx : List ℕ) → AllBytes shp → AllBytes shx → Says shp shx (verdict shp shx)
says shp shx b bx =
    record {
      entries_name =
          λ c e k h j.
          let q = only shp shx b bx c e in
          entry_names q.kind q.box q.shapes shp shx q.file k h (rw q.records j);
      records_hold = λ kind box ss. record_holds kind box ss shp shx;
      no_record = no_record shp shx b bx;
      record_no = record_no shp shx;
      no_header = no_header shp shx b bx;
      header_no = header_no shp shx;
    }
