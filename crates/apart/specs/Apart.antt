-- The statement: each call of today over stores of x and y is the call of the old form over the pairs. An answer, a refusal with its values, a
-- store or an output that meets the one contract meets the other, with the pairs taken apart, or the two stores put together. Contracts determine
-- what they speak of, so nothing else can come of either.
use Rattle.std.specs.Prelude.{◌≡◌, Bool, List, ℕ, ◌*◌, ◌≤◌, Float, ℤ, length, take, Option, Result}
use Rattle.format.specs.declared.units.Bytes.{Bytes}
use Rattle.header.specs.declared.bbox.BBoxZ.{BBoxZ}
use Rattle.layouts.specs.declared.LayoutError.{LayoutError}
use Rattle.layouts.specs.Answers.{WritesBody}
use Rattle.multipart.specs.declared.Body.{Body}
use Rattle.multipart.specs.declared.BodyError.{BodyError}
use Rattle.multipart.specs.Answers.{ReadsBody}
use Rattle.record.specs.declared.Record.{Record}
use Rattle.record.specs.declared.RecordError.{RecordError}
use Rattle.record.specs.Reading.{ReadsRecord}
use Rattle.rings.specs.declared.CloseError.{CloseError}
use Rattle.rings.specs.Answers.{closed_of, turning_of, Closing}
use Rattle.writer.specs.declared.State.{State}
use Rattle.writer.specs.declared.Adding.{Adding}
use Rattle.writer.specs.Adding.{Lent, Adds}
use Rattle.apart.specs.OldAdding
use Rattle.apart.specs.OldReading
use Rattle.apart.specs.OldRings
use Rattle.apart.specs.OldWriting
use Rattle.apart.specs.Pairs.{all_x, all_y, together}

-- what a caller lends, taken apart and put together
abbrev pub lent_apart : OldAdding.Lent → Lent
lent_apart t =
    record { code = t.code; box = t.box; counts = t.counts; xs = all_x t.xy; ys = all_y t.xy; zs = t.zs; ms = t.ms }

abbrev pub lent_together : Lent → OldAdding.Lent
lent_together t = record { code = t.code; box = t.box; counts = t.counts; xy = together t.xs t.ys; zs = t.zs; ms = t.ms }

-- ---- reading: stores of any lengths, bodies in parts or not, with any flags

pub record Reading : Type 0 where
  pub body_apart : (parts z m : Bool) (s counts : List ℕ) (xy zs ms : List Float) (r : Result Body BodyError) (counts' : List ℕ) (xy' zs' ms' : List Float)
      → OldReading.ReadsBody parts z m s counts xy zs ms r counts' xy' zs' ms'
      → ReadsBody parts z m s counts (all_x xy) (all_y xy) zs ms r counts' (all_x xy') (all_y xy') zs' ms'
  pub body_together : (parts z m : Bool) (s counts : List ℕ) (xs ys zs ms : List Float) (r : Result Body BodyError) (counts' : List ℕ) (xs' ys' zs' ms' : List Float)
      → ReadsBody parts z m s counts xs ys zs ms r counts' xs' ys' zs' ms'
      → OldReading.ReadsBody parts z m s counts (together xs ys) zs ms r counts' (together xs' ys') zs' ms'
  pub record_apart : (wanted : Option ℤ) (size : Bytes) (s counts : List ℕ) (xy zs ms : List Float) (r : Result Record RecordError) (counts' : List ℕ) (xy' zs' ms' : List Float)
      → OldReading.ReadsRecord wanted size s counts xy zs ms r counts' xy' zs' ms'
      → ReadsRecord wanted size s counts (all_x xy) (all_y xy) zs ms r counts' (all_x xy') (all_y xy') zs' ms'
  pub record_together : (wanted : Option ℤ) (size : Bytes) (s counts : List ℕ) (xs ys zs ms : List Float) (r : Result Record RecordError) (counts' : List ℕ) (xs' ys' zs' ms' : List Float)
      → ReadsRecord wanted size s counts xs ys zs ms r counts' xs' ys' zs' ms'
      → OldReading.ReadsRecord wanted size s counts (together xs ys) zs ms r counts' (together xs' ys') zs' ms'

-- ---- writing: tables of any lengths; to be put together, x and y have to be as long as each other, since all else is 10

pub record Writing : Type 0 where
  pub body_apart : (parts z m : Bool) (b : BBoxZ) (counts : List ℕ) (xy zs ms : List Float) (out : List ℕ) (r : Result ℕ LayoutError) (out' : List ℕ)
      → OldWriting.WritesBody parts z m b counts xy zs ms out r out'
      → WritesBody parts z m b counts (all_x xy) (all_y xy) zs ms out r out'
  pub body_together : (parts z m : Bool) (b : BBoxZ) (counts : List ℕ) (xs ys zs ms : List Float) (out : List ℕ) (r : Result ℕ LayoutError) (out' : List ℕ)
      → length xs ≡ length ys
      → WritesBody parts z m b counts xs ys zs ms out r out'
      → OldWriting.WritesBody parts z m b counts (together xs ys) zs ms out r out'
  pub record_apart : (s : State) (t : OldAdding.Lent) (out : List ℕ) (start : ℕ) (entry : List ℕ) (r : Adding) (out' entry' : List ℕ)
      → OldAdding.Adds s t out start entry r out' entry'
      → Adds s (lent_apart t) out start entry r out' entry'
  pub record_together : (s : State) (t : Lent) (out : List ℕ) (start : ℕ) (entry : List ℕ) (r : Adding) (out' entry' : List ℕ)
      → length t.xs ≡ length t.ys
      → Adds s t out start entry r out' entry'
      → OldAdding.Adds s (lent_together t) out start entry r out' entry'

-- ---- rings: n points were 2n coordinates; but for closing, an old run was all of what was lent

pub record Rings : Type 0 where
  pub closed_apart : (xy : List Float) → OldRings.closed_of xy ≡ closed_of (all_x xy) (all_y xy) (length (all_x xy))
  pub closed_together : (xs ys : List Float) (n : ℕ) → n ≤ length xs → n ≤ length ys → closed_of xs ys n ≡ OldRings.closed_of (together (take n xs) (take n ys))
  pub turning_apart : (xy : List Float) → OldRings.turning_of xy ≡ turning_of (all_x xy) (all_y xy) (length (all_x xy))
  pub turning_together : (xs ys : List Float) (n : ℕ) → n ≤ length xs → n ≤ length ys → turning_of xs ys n ≡ OldRings.turning_of (together (take n xs) (take n ys))
  pub closing_apart : (xy : List Float) (n : ℕ) (r : Result ℕ CloseError) (xy' : List Float)
      → OldRings.Closing xy (2 * n) r xy'
      → Closing (all_x xy) (all_y xy) n r (all_x xy') (all_y xy')
  pub closing_together : (xs ys : List Float) (n : ℕ) (r : Result ℕ CloseError) (xs' ys' : List Float)
      → Closing xs ys n r xs' ys'
      → OldRings.Closing (together xs ys) (2 * n) r (together xs' ys')
