-- Reading what was written: where the writer took the tables, reading its record's content, with no wanted kind, gives the tables back, m raised.
-- Every double comes back bit for bit but for a NaN: the logic has one, and the writer writes one.
use Rattle.std.specs.Prelude.{◌≡◌, Bool, true, cond, List, [], ◌∷◌, map, ℕ, ◌≤◌, T, Float, pos, length, get_or, drop, None}
use Rattle.std.proofs.Math.Option.{some}
use Rattle.std.specs.Float.{binary64}
use Rattle.std.specs.Float.Ieee.{fits, of_int}
use Rattle.format.specs.Kinds.{kind_at}
use Rattle.format.specs.Lengths.{Form, nothing, one_point, many_points, parts, several}
use Rattle.format.specs.Said.{gives}
use Rattle.header.specs.RoundTrip.{Doubles}
use Rattle.multipart.specs.declared.Body.{Body}
use Rattle.multipart.specs.declared.Range.{Range}
use Rattle.multipart.specs.Body.{no_range, raised, counts_in, x_in, y_in, z_in, m_in}
use Rattle.layouts.specs.Tables.{points_lent}
use Rattle.writer.specs.declared.State.{State}
use Rattle.writer.specs.Adding.{Lent, lent_kind, lent_form, lent_shape, record_of, adding_of}
use Rattle.record.specs.Reading
use Rattle.record.specs.Reading.{Shaped, null_shape, point_shape, multipoint_shape, parts_shape, code_in}
use Rattle.readback.specs.ReadBack.{Small, size}

-- each value that was lent is a double, as its type says
abbrev pub AllDoubles : List Float → Type 0
AllDoubles [] = Unit {0}
AllDoubles (x ∷ xs) = T (fits binary64 x) × AllDoubles xs

pub record Typed (t : Lent) : Type 0 where
  pub box : Doubles t.box
  pub xs : AllDoubles t.xs
  pub ys : AllDoubles t.ys
  pub zs : AllDoubles t.zs
  pub ms : AllDoubles t.ms

-- ---- what a reader has to say of the tables

abbrev pub range_if : Bool → Float → Float → Range
range_if flag low high = cond flag (record { low = low; high = high }) no_range

abbrev pub body_lent : Lent → Body
body_lent t =
    record {
      bbox = record { xmin = t.box.xmin; ymin = t.box.ymin; xmax = t.box.xmax; ymax = t.box.ymax };
      z_range = range_if (lent_kind t).z t.box.zmin t.box.zmax;
      m_range = range_if (lent_kind t).m t.box.mmin t.box.mmax;
      parts = length t.counts;
      points = points_lent (lent_kind t).parts t.counts t.xs;
    }

-- a table's first value, and 0 where the table has none
abbrev pub first_of : List Float → Float
first_of values = get_or values 0 (of_int binary64 (pos 0))

abbrev pub shaped_by : Form → Lent → Shaped
shaped_by nothing t = null_shape
shaped_by one_point t = point_shape t.code (record { x = first_of t.xs; y = first_of t.ys; z = first_of t.zs; m = first_of t.ms })
shaped_by many_points t = multipoint_shape t.code (lent_kind t).m (body_lent t)
shaped_by parts t = parts_shape t.code (lent_kind t).m (body_lent t)

-- the stores are as long as the tables
pub record Room (t : Lent) (counts xs ys zs ms : ℕ) : Type 0 where
  pub for_counts : length t.counts ≤ counts
  pub for_xs : length t.xs ≤ xs
  pub for_ys : length t.ys ≤ ys
  pub for_zs : length t.zs ≤ zs
  pub for_ms : length t.ms ≤ ms

-- what the stores get, by the content
pub record TablesIn (t : Lent) (content : List ℕ) : Type 0 where
  pub counts_back : counts_in (lent_kind t).parts (drop 4 content) ≡ t.counts
  pub xs_back : x_in (lent_kind t).parts (drop 4 content) ≡ t.xs
  pub ys_back : y_in (lent_kind t).parts (drop 4 content) ≡ t.ys
  pub zs_back : z_in (lent_kind t).parts (lent_kind t).z (drop 4 content) ≡ t.zs
  pub ms_back : m_in (lent_kind t).parts (lent_kind t).z (lent_kind t).m (drop 4 content) ≡ map raised t.ms

-- ---- the statement

-- the content of the record that was written, behind the record's header of 8 bytes
abbrev pub written : State → Lent → List ℕ
written s t = drop 8 (record_of s t)

pub record TablesBack (s : State) (t : Lent) : Type 0 where
  pub kind_is : kind_at (code_in (written s t)) ≡ some (lent_kind t)
  pub answer : (counts xs ys zs ms : ℕ) → (several (lent_form t) ≡ true → Room t counts xs ys zs ms)
      → Reading.record_of None (size (lent_shape t)) (written s t) counts xs ys zs ms ≡ gives (shaped_by (lent_form t) t)
  pub stores : several (lent_form t) ≡ true → TablesIn t (written s t)

abbrev pub ReadsWritten : Type 0
ReadsWritten =
    (s : State) (t : Lent) (out start entry n : ℕ) → adding_of s t out start entry ≡ gives n → Typed t → Small (lent_shape t) → TablesBack s t
