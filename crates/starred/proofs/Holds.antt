-- The table holds, by computation.
use mathlib.Core.Path.{refl}
use mathlib.Core.List.{flatten}
use lib.Ieee.{of_int, add, sub, mul, div, lt, of_bits, to_bits}
use Rattle.format.specs.Bytes.{le, be, le_bytes, be_bytes, field}
use Rattle.format.specs.Encoding.{header_bytes, entries_from, shape_words}
use Rattle.format.specs.Kinds.{kinds, row_of, kind_of, known}
use Rattle.format.specs.Lengths.{is_multipoint, form_of, content_words, fixed_words, point_words, lengths_of, content_of}
use Rattle.format.specs.Numbers.{big, little, double, be_i32, le_i32, le_f64, doubles_at}
use Rattle.header.specs.Reading.{header_of}
use Rattle.multipart.specs.Body.{counts_in, points_in, pairs_at, z_at, m_at, x_in, y_in, part_tests, body_of}
use Rattle.multipart.specs.Parts.{differences, starts_at}
use Rattle.rings.specs.Answers.{closed_of, turning_of}
use Rattle.rings.specs.Points.{points, closed, half_sum, products, turning}
use Rattle.starred.specs.Starred.{rows, Starred}

pub starred : Starred
unfolding rows header_of header_bytes flatten big little double be_bytes le_bytes be le field be_i32 le_i32 known kind_of row_of kinds is_multipoint form_of content_words fixed_words point_words lengths_of content_of entries_from shape_words closed_of turning_of points closed turning half_sum products of_int add sub mul div lt body_of counts_in points_in pairs_at z_at m_at x_in y_in part_tests differences starts_at le_f64 doubles_at of_bits to_bits
starred = refl
