-- The number that crosses tells whether a value is given, since each refusal has one of document 01's numbers.
use mathlib.Core.Path.{refl}
use native.Mathlib.Omega.{arith}
use borrow.Author.Tests.{ne_eqb}
use Rattle.format.specs.Said.{Said, gives, refuses, Numbered}
use Rattle.header.specs.Entries.{two_of, record_header, shape_index}
use Rattle.header.specs.Reading.{header_of}
use Rattle.header.proofs.Numbered.{header_numbered, two_numbered}
use Rattle.record.specs.Reading.{record_of}
use Rattle.record.proofs.Numbered.{record_numbered}
use Rattle.rings.specs.Answers.{closed_of, turning_of, closing_of}
use Rattle.rings.proofs.Numbered.{closed_numbered, turning_numbered, closing_numbered}
use Rattle.rules.specs.Rules.{verdict}
use Rattle.rules.proofs.Numbered.{verdict_numbered}
use Rattle.writer.specs.Adding.{adding_of}
use Rattle.writer.proofs.Numbered.{adding_numbered, finishing_numbered}
use Rattle.export.specs.Numbers.{Tells, NumberTells}
use Rattle.export.specs.Writing.{finishing_of}

tells : {A : Type 0} (said : Said A) → Numbered said → Tells said
tells (gives a) p = (refl, omega arith)
tells (refuses n values) p = (ne_eqb n 0 (omega arith), p.1)

pub number_tells : NumberTells
number_tells =
    record {
      header = λ s. tells (header_of s) (header_numbered s);
      record-header = λ s. tells (two_of record_header s) (two_numbered record_header s);
      index_entry = λ s. tells (two_of shape_index s) (two_numbered shape_index s);
      reading = λ wanted size s counts xs ys zs ms. tells (record_of wanted size s counts xs ys zs ms) (record_numbered wanted size s counts xs ys zs ms);
      pair = λ shp shx. tells (verdict shp shx) (verdict_numbered shp shx);
      adding = λ s t out start entry. tells (adding_of s t out start entry) (adding_numbered s t out start entry);
      finishing = λ s. tells (finishing_of s) (finishing_numbered s);
      closed = λ xs ys n. tells (closed_of xs ys n) (closed_numbered xs ys n);
      turning = λ xs ys n. tells (turning_of xs ys n) (turning_numbered xs ys n);
      closing = λ xs ys n. tells (closing_of xs ys n) (closing_numbered xs ys n);
    }
