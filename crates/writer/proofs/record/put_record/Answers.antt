-- Header, kind and body, one behind the other; the body in the tail that was lent on.
use Rattle.std.proofs.Common.{ap, ◌∙◌, arith, ℕ, List, of_z, to_z-of_z}
use Rattle.std.proofs.lemmas.List.Edits.{sets}
use Rattle.std.specs.Int.{w32}
use Rattle.format.specs.Encoding.{shape_bytes, two_big}
use Rattle.format.specs.Numbers.{i32_le}
use Rattle.format.proofs.Equations.{i32_le-is}
use Rattle.writer.specs.Judging.{shape_by, words_by}
use Rattle.writer.proofs.BodyLaws.{words-least, record_is}
use Rattle.writer.proofs.ShapeLaws.{words_are}
use Rattle.writer.proofs.StoreLaws.{tail_stored, record_stored}
use Rattle.writer.proofs.record.put_record.Goals as goal

pub put_le_i32-requires : goal.put_le_i32-requires
put_le_i32-requires c = omega (arith, words-least c.args.judged.kind c.args.t.now.counts.now c.args.t.now.xs.now, c.requires.xs_in_bounds)

pub slice_bounds-put_body-count : goal.slice_bounds-put_body-count
slice_bounds-put_body-count c = omega (arith, words-least c.args.judged.kind c.args.t.now.counts.now c.args.t.now.xs.now, c.requires.xs_in_bounds)

pub slice_bounds-put_body-start : goal.slice_bounds-put_body-start
slice_bounds-put_body-start c = omega (arith, words-least c.args.judged.kind c.args.t.now.counts.now c.args.t.now.xs.now, c.requires.xs_in_bounds)

pub returns : goal.returns
returns c =
    let a = c.args in
    let k = a.judged.kind in
    let t = a.t.now in
    let shape = shape_by k a.bbox t.counts.now t.xs.now t.ys.now t.zs.now t.ms.now in
    let number = to_z-of_z c.ranges.number in
    let code = to_z-of_z c.ranges.code in
    record_stored a.out.now c.put_two.new.out c.put_le_i32.new.out _ (of_z w32 a.number) (of_z w32 a.judged.content.0) (of_z w32 a.code) (shape_bytes shape)
    (c.put_two.ensures ∙ (λ i. sets a.out.now 0 (two_big (of_z w32 (number i)) (of_z w32 a.judged.content.0))))
    (c.put_le_i32.ensures ∙ ap (sets c.put_two.new.out 8) (ap i32_le code ∙ i32_le-is a.code))
    (tail_stored 12 c.put_le_i32.new.out c.put_body.new.out (shape_bytes shape) c.put_body.ensures)
    ∙ ap (λ (l : List ℕ). sets a.out.now 0 l)
    (record_is k shape (of_z w32 a.number) (words_by k t.counts.now t.xs.now) a.judged.content a.code c.requires.content_value
    (words_are k a.bbox t.counts.now t.xs.now t.ys.now t.zs.now t.ms.now c.requires.ready.agrees)
    c.requires.code_value)
