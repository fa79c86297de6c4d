-- What is not answered is a header of zeros.
use Rattle.std.proofs.Common.{◌≡◌, refl, Err}
use Rattle.format.proofs.NumberLaws.{zero_bits}
use Rattle.header.specs.declared.HeaderError.{HeaderError}
use Rattle.header.specs.declared.HeaderError.TheVariants.{Short, Code, Size, Unknown}
use Rattle.header.specs.Reading.{said}
use Rattle.export.specs.Headers.{zero_header, header_read}
use Rattle.export.specs.Refusals.{refusal_of}
use Rattle.export.proofs.headers.HeaderReadFromResultHeaderHeaderError.from.Goals as goal

refused : (e : HeaderError) → header_read (said (Err e)) ≡ record { refusal = refusal_of (said (Err e)); header = zero_header }
refused (Short e) = refl
refused (Code code) = refl
refused (Size at) = refl
refused (Unknown code) = refl

pub returns-in-Err : goal.returns-in-Err
returns-in-Err c =
    let d = c.default.ensures in
    let b = d.1.1.1 in
    rw (c.in-Err.is, refused, c.from.ensures, d.0, d.1.0, d.1.1.0, b.0, b.1.0, b.1.1.0, b.1.1.1.0, b.1.1.1.1.0, b.1.1.1.1.1.0, b.1.1.1.1.1.1.0, b.1.1.1.1.1.1.1, zero_bits)
