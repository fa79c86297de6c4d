-- A refusal leaves all as it was; what passed is written into the tail that was lent on, and the next state is made.
use Rattle.std.proofs.Common.{rules, ap, ◌∙◌, ℕ, ◌-◌, List, length, of_z, to_z-of_z, FitsSigned, ℤ}
use Rattle.std.proofs.lemmas.List.Edits.{sets}
use Rattle.std.specs.Int.{w32}
use borrow.Rule.Slice.PartMut.{mid_of}
use Rattle.format.specs.Encoding.{record_bytes, two_big}
use Rattle.format.specs.Said.{gives}
use Rattle.writer.specs.Adding.{lent_tables}
use Rattle.writer.specs.Judging.{shape_by, kind_by, box_by, next_by}
use Rattle.writer.proofs.AddLaws.{adds-refused, starts, whole, ready, size-whole, code, content, next_number, next_points, next_is, record-of, entry-of}
use Rattle.writer.proofs.StoreLaws.{tail_length, tail_stored}
use Rattle.writer.proofs.add_record.Goals as goal

pub next_points-points-requires : goal.next_points-points-requires
next_points-points-requires c = let p = c.in-Ok.ensures c.args.bbox in next_points p

pub slice_bounds-put_record-count : goal.slice_bounds-put_record-count
slice_bounds-put_record-count c = let p = c.in-Ok.ensures c.args.bbox in starts p

pub slice_bounds-put_record-start : goal.slice_bounds-put_record-start
slice_bounds-put_record-start c = let p = c.in-Ok.ensures c.args.bbox in starts p

pub put_record-requires-clause-ready : goal.put_record-requires-clause-ready
put_record-requires-clause-ready c =
    let p = c.in-Ok.ensures c.args.bbox in
    ready p _ (tail_length c.args.start c.args.out.now)

pub put_record-requires-clause-xs_in_bounds : goal.put_record-requires-clause-xs_in_bounds
put_record-requires-clause-xs_in_bounds c =
    let p = c.in-Ok.ensures c.args.bbox in
    rw (tail_length c.args.start c.args.out.now) (whole p)

pub put_record-requires-clause-code_value : goal.put_record-requires-clause-code_value
put_record-requires-clause-code_value c = let p = c.in-Ok.ensures c.args.bbox in code p

pub put_record-requires-clause-content_value : goal.put_record-requires-clause-content_value
put_record-requires-clause-content_value c = let p = c.in-Ok.ensures c.args.bbox in content p

pub put_two-requires : goal.put_two-requires
put_two-requires c = let p = c.in-Ok.ensures c.args.bbox in p.shape.entry_room

pub in_memory-requires : goal.in_memory-requires
in_memory-requires c = let p = c.in-Ok.ensures c.args.bbox in size-whole p

pub next_state-requires : goal.next_state-requires
next_state-requires c =
    let p = c.in-Ok.ensures c.args.bbox in
    let number_fits : FitsSigned w32 c.args.state.number = search rules in
    rw (to_z-of_z number_fits) (next_number p)

pub returns-in-Err : goal.returns-in-Err
returns-in-Err c =
    let a = c.args in
    let r = rw (to_z-of_z c.ranges.code) at (c.in-Err.ensures a.bbox) in
    adds-refused a.state (lent_tables a.code a.bbox a.t.now) a.out.now a.start a.entry.now _ r

pub returns-in-Ok : goal.returns-in-Ok
returns-in-Ok c =
    let a = c.args in
    let t = a.t.now in
    let j = c.in-Ok.judged in
    let same = to_z-of_z c.ranges.code in
    let p = rw same at (c.in-Ok.ensures a.bbox) in
    let number_fits : FitsSigned w32 a.state.number = search rules in
    let kind_fits : FitsSigned w32 c.next_kind-kind.result = search rules in
    let words_fit : FitsSigned w32 a.state.words.0 = search rules in
    let number = to_z-of_z number_fits in
    let words = to_z-of_z words_fit in
    let kind = to_z-of_z kind_fits ∙ (c.next_kind-kind.ensures ∙ ap (kind_by a.state) same) in
    let points = c.next_points-points.ensures in
    let bounds = c.next_box-bounds.ensures ∙ ap (λ (z : ℤ). box_by a.state z j.kind a.bbox t.xs.now t.ys.now t.zs.now t.ms.now) same in
    let shape = shape_by j.kind a.bbox t.counts.now t.xs.now t.ys.now t.zs.now t.ms.now in
    let tail = mid_of a.start (length a.out.now - a.start) a.out.now in
    let stored = c.put_record.ensures ∙ (λ i. sets tail 0 (record_bytes j.kind (of_z w32 (number i)) shape)) in
    record {
      says = ap gives c.in_memory.ensures ∙ p.says;
      state_is = c.next_state.ensures ∙ ((λ i. next_by (number i) j.after (kind i) (points i) (bounds i)) ∙ next_is p);
      out_is = tail_stored a.start a.out.now c.put_record.new.out (record_bytes j.kind (of_z w32 a.state.number) shape) stored ∙ ap (λ (l : List ℕ). sets a.out.now a.start l) (record-of p);
      entry_is = c.put_two.ensures ∙ ((λ i. sets a.entry.now 0 (two_big (of_z w32 (words i)) (of_z w32 j.content.0))) ∙ ap (λ (l : List ℕ). sets a.entry.now 0 l) (entry-of p));
    }
