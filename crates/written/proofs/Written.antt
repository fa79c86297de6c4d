-- The theorem, by the form of the kind: nothing, one point, a multipoint, or parts.
use mathlib.Core.Path.{◌≡◌, refl, sym, ap, ◌∙◌}
use mathlib.Core.Bool.{Bool, true, false, cond}
use mathlib.Core.List.{List, [], map, flatten}
use mathlib.Core.Option.{Option}
use Prim.Native.Nat.{ℕ, ◌≤◌}
use native.Mathlib.Omega.{arith}
use lib.IntN.{nat_abs}
use lib.ListN.{length, drop}
use lib.Seq.{drop_at}
use Rattle.format.specs.Encoding.{two_big, content, shape_words}
use Rattle.format.specs.Kinds.{kind_at}
use Rattle.format.specs.Lengths.{Form, nothing, one_point, many_points, several, several_form}
use Rattle.format.specs.Lengths
use Rattle.format.specs.Said.{gives}
use Rattle.format.specs.Shapes.{Point, Measure, Multipoint, Parts, Shape, point, multipoint, parted, there}
use Rattle.format.proofs.Equations.{record_is}
use Rattle.format.proofs.NumberLaws.{length_two}
use Rattle.rules.specs.Meaning.{TakenKind}
use Rattle.multipart.specs.Body.{raised}
use Rattle.layouts.specs.Steps.{Agreed}
use Rattle.layouts.specs.Tables.{bits, points_of, split_by, measure_of, box_of, points_lent}
use Rattle.layouts.proofs.TableLaws.{length-points, split_length, split_whole, split_counts, parts_are, multipoint_are, there_measure}
use Rattle.layouts.proofs.TableLaws
use Rattle.writer.specs.declared.State.{State}
use Rattle.writer.specs.Adding.{Lent, lent_kind, lent_form, value_of, point_shape, lent_shape}
use Rattle.writer.proofs.Accepted.{Accepted, accepted, code, point-tables, several-tables, several-parts, shape-fits}
use Rattle.writer.proofs.ShapeLaws.{lent_nothing, lent-point, lent-several, empty}
use Rattle.record.specs.Reading.{multipoint_shape, parts_shape}
use Rattle.readback.specs.Held.{DoublesHeld, Held}
use Rattle.readback.specs.ReadBack.{body_as, shaped_as, RoomFor, Roomy, StoresPoints, StoresShape}
use Rattle.readback.proofs.ReadsBack.{reads_back}
use Rattle.written.specs.Written.{Typed, body_lent, first_of, shaped_by, Room, TablesIn, written, ReadsWritten}
use Rattle.written.proofs.Tables.{back, held, pairs-held, x-back, y-back, range_is, measure_held, values_are, first-double, points_one, value-held, value-is}

-- what the theorem needs of the shape that was lent, where its form is this one
record Fine (t : Lent) (form : Form) (s : Shape) : Type 0 where
  held : Held s
  shaped : shaped_as (lent_kind t) s ≡ shaped_by form t
  room : (counts xs ys zs ms : ℕ) → (several form ≡ true → Room t counts xs ys zs ms) → Roomy s counts xs ys zs ms
  stores : (bytes : List ℕ) → several form ≡ true → StoresShape s bytes → TablesIn t bytes

has_room : (flag : Bool) (n have store : ℕ) → have ≡ cond flag n 0 → have ≤ store → flag ≡ true → n ≤ store
has_room true n have store e h f = omega arith
has_room false n have store e h f = absurd (let z : ◌≡◌ {A = ℕ} 0 1 = cc in omega arith)

module _ (s : State) (t : Lent) (a : Accepted s t) (d : Typed t) where
  -- ---- several points, in parts or as a multipoint

  module _ (f : Bool) (form : lent_form t ≡ several_form f) where
    agree : Agreed (lent_kind t).z (lent_kind t).m (points_lent f t.counts t.xs) t.xs t.ys t.zs t.ms
    agree = (several-tables s t a f form).1

    points : points_lent f t.counts t.xs ≡ length (points_of t.xs t.ys)
    points = sym (length-points t.xs t.ys (points_lent f t.counts t.xs) agree.xs_has agree.ys_has)

    flag : (lent_kind t).parts ≡ f
    flag = several-parts s t a f form

    as_many : length t.ys ≡ length t.xs
    as_many = agree.ys_has ∙ sym agree.xs_has

    abbrev z : Option Measure
    z = measure_of (lent_kind t).z t.box.zmin t.box.zmax t.zs

    abbrev m : Option Measure
    m = measure_of (lent_kind t).m t.box.mmin t.box.mmax t.ms

    z-there : there z ≡ (lent_kind t).z
    z-there = there_measure (lent_kind t).z t.box.zmin t.box.zmax t.zs

    m-there : there m ≡ (lent_kind t).m
    m-there = there_measure (lent_kind t).m t.box.mmin t.box.mmax t.ms

    points_held : DoublesHeld (box_of t.box) (points_of t.xs t.ys) z m
    points_held =
        let b = t.box in
        let g = d.box in
        record {
          box_held = (held b.xmin g.xmin, (held b.ymin g.ymin, (held b.xmax g.xmax, (held b.ymax g.ymax, tt))));
          points_held = pairs-held t.xs t.ys d.xs d.ys;
          z_held = measure_held b.zmin b.zmax t.zs (lent_kind t).z g.zmin g.zmax d.zs;
          m_held = measure_held b.mmin b.mmax t.ms (lent_kind t).m g.mmin g.mmax d.ms;
        }

    body_is : body_as (length t.counts) (box_of t.box) (points_of t.xs t.ys) z m ≡ body_lent t
    body_is =
        let b = t.box in
        let g = d.box in
        rw (
          back b.xmin g.xmin,
          back b.ymin g.ymin,
          back b.xmax g.xmax,
          back b.ymax g.ymax,
          range_is b.zmin b.zmax t.zs (lent_kind t).z g.zmin g.zmax,
          range_is b.mmin b.mmax t.ms (lent_kind t).m g.mmin g.mmax,
          flag,
          points,
        )

    points-room : (counts xs ys zs ms : ℕ) → Room t counts xs ys zs ms → RoomFor (length t.counts) (length (points_of t.xs t.ys)) z m counts xs ys zs ms
    points-room counts xs ys zs ms r =
        rw (← points, z-there, m-there) (
          r.for_counts,
          omega (arith, agree.xs_has, r.for_xs),
          omega (arith, agree.ys_has, r.for_ys),
          has_room (lent_kind t).z (points_lent f t.counts t.xs) (length t.zs) zs agree.zs_has r.for_zs,
          has_room (lent_kind t).m (points_lent f t.counts t.xs) (length t.ms) ms agree.ms_has r.for_ms,
        )

    points-stored : (bytes : List ℕ) → StoresPoints f t.counts (points_of t.xs t.ys) z m bytes → TablesIn t bytes
    points-stored bytes st =
        let n = points_lent f t.counts t.xs in
        let zs = values_are t.box.zmin t.box.zmax t.zs n (lent_kind t).z agree.zs_has d.zs in
        let ms = values_are t.box.mmin t.box.mmax t.ms n (lent_kind t).m agree.ms_has d.ms in
        record {
          counts_back = rw flag st.0;
          xs_back = rw flag (st.1 ∙ x-back t.xs t.ys as_many d.xs);
          ys_back = rw flag (st.2 ∙ y-back t.xs t.ys as_many d.ys);
          zs_back = rw flag ((rw z-there at st.3) ∙ zs);
          ms_back = rw flag ((rw (z-there, m-there) at st.4) ∙ ap (map raised) ms);
        }

  -- ---- a multipoint: there are no part counts

  module _ (form : lent_form t ≡ many_points) where
    no_counts : t.counts ≡ []
    no_counts = empty t.counts (TableLaws.no_counts false (length t.counts) (several-tables s t a false form).0 refl)

    abbrev many : Multipoint
    many = record { box = box_of t.box; points = points_of t.xs t.ys; z = z false form; m = m false form }

    many_is : lent_shape t ≡ multipoint many
    many_is = lent-several t false form ∙ ap multipoint (multipoint_are (lent_kind t).z (lent_kind t).m t.box t.xs t.ys t.zs t.ms)

    many_fine : Fine t many_points (multipoint many)
    many_fine =
        record {
          held = points_held false form;
          shaped = rw (← code s t a, m-there false form) (ap (multipoint_shape t.code (lent_kind t).m) (sym (ap (λ (c : List ℕ). body_as (length c) (box_of t.box) (points_of t.xs t.ys) (z false form) (m false form)) no_counts) ∙ body_is false form));
          room = λ counts xs ys zs ms r. rw (ap length no_counts) at (points-room false form counts xs ys zs ms (r refl));
          stores = λ bytes e st. points-stored false form bytes (rw no_counts st);
        }

  -- ---- parts: the counts part the points

  module _ (form : lent_form t ≡ Lengths.parts) where
    whole : flatten (split_by t.counts (points_of t.xs t.ys)) ≡ points_of t.xs t.ys
    whole = split_whole t.counts (points_of t.xs t.ys) (points true form)

    abbrev parted_so : Parts
    parted_so = record { box = box_of t.box; parts = split_by t.counts (points_of t.xs t.ys); z = z true form; m = m true form }

    parts_is : lent_shape t ≡ parted parted_so
    parts_is = lent-several t true form ∙ ap parted (parts_are (lent_kind t).z (lent_kind t).m t.box t.counts t.xs t.ys t.zs t.ms)

    parts-fine : Fine t Lengths.parts (parted parted_so)
    parts-fine =
        record {
          held = rw whole (points_held true form);
          shaped = rw (← code s t a, m-there true form, split_length t.counts (points_of t.xs t.ys), whole) (ap (parts_shape t.code (lent_kind t).m) (body_is true form));
          room = λ counts xs ys zs ms r. rw (split_length t.counts (points_of t.xs t.ys), whole) (points-room true form counts xs ys zs ms (r refl));
          stores = λ bytes e st. points-stored true form bytes (rw (whole, split_counts t.counts (points_of t.xs t.ys) (points true form)) at st);
        }

  -- ---- one point

  module _ (form : lent_form t ≡ one_point) where
    agree_one : Agreed (lent_kind t).z (lent_kind t).m 1 t.xs t.ys t.zs t.ms
    agree_one = point-tables s t a form

    abbrev place : Point
    place = record { x = bits (first_of t.xs); y = bits (first_of t.ys) }

    abbrev one : Shape
    one = point place (value_of (lent_kind t).z t.zs) (value_of (lent_kind t).m t.ms)

    one_is : point_shape (lent_kind t) t.xs t.ys t.zs t.ms ≡ one
    one_is = rw (points_one t.xs t.ys agree_one.xs_has agree_one.ys_has)

    point-fine : Fine t one_point one
    point-fine =
        let k = lent_kind t in
        let x = first-double t.xs d.xs agree_one.xs_has in
        let y = first-double t.ys d.ys agree_one.ys_has in
        record {
          held = record {
            x_held = held (first_of t.xs) x;
            y_held = held (first_of t.ys) y;
            z_held = value-held k.z t.zs d.zs;
            m_held = value-held k.m t.ms d.ms;
          };
          shaped =
              rw (
                ← code s t a,
                back (first_of t.xs) x,
                back (first_of t.ys) y,
                value-is k.z t.zs agree_one.zs_has d.zs,
                value-is k.m t.ms agree_one.ms_has d.ms,
              );
          room = λ counts xs ys zs ms r. tt;
          stores = λ bytes e st. absurd (let z : ◌≡◌ {A = ℕ} 0 1 = cc in omega arith);
        }

  all_fine : (form : Form) → lent_form t ≡ form → Fine t form (lent_shape t)
  all_fine nothing e =
      rw (lent_nothing t e)
      (record {
        held = tt;
        shaped = refl;
        room = λ counts xs ys zs ms r. tt;
        stores = λ bytes f st. absurd (let z : ◌≡◌ {A = ℕ} 0 1 = cc in omega arith);
      })
  all_fine one_point e = rw (lent-point t e, one_is e) (point-fine e)
  all_fine many_points e = rw (many_is e) (many_fine e)
  all_fine Lengths.parts e = rw (parts_is e) (parts-fine e)

pub reads_written : ReadsWritten
reads_written s t out start entry n e d small =
    let k = lent_kind t in
    let a = accepted s t out start entry n e in
    let fine = all_fine s t a d (lent_form t) refl in
    let taken : TakenKind k = record { form = lent_form t; in_table = ap kind_at (sym (code s t a)) ∙ a.kind; taken = a.form } in
    let back = reads_back k (lent_shape t) taken (shape-fits s t a).of_kind fine.held small in
    let head : List ℕ = two_big (nat_abs s.number) (shape_words (lent_shape t)) in
    let is : written s t ≡ content k (lent_shape t) = ap (drop 8) (record_is k (nat_abs s.number) (lent_shape t)) ∙ drop_at head (content k (lent_shape t)) 8 (length_two (nat_abs s.number) (shape_words (lent_shape t))) in
    record {
      kind_is = rw is back.kind_is;
      answer = λ counts xs ys zs ms r. rw is (back.answer counts xs ys zs ms (fine.room counts xs ys zs ms r) ∙ ap gives fine.shaped);
      stores = λ f. rw is (fine.stores (content k (lent_shape t)) f back.stores);
    }
