-- A record and its entry: without fault they are the bytes of the shape that is read there, and the bytes of a well-formed shape have none.
use mathlib.Core.Path.{◌≡◌, sym, ap, ◌∙◌}
use mathlib.Core.List.{List}
use Prim.Native.Nat.{ℕ, ◌+◌, ◌*◌, ◌≤◌}
use native.Mathlib.Omega.{arith}
use lib.IntN.{pos}
use lib.ListN.{length}
use Rattle.format.specs.declared.kinds.Kind.{Kind}
use Rattle.format.specs.Encoding.{shape_words, two_big, record_bytes, Held}
use Rattle.format.specs.Shapes.{Shape, OfKind, parts_in, points_in}
use Rattle.format.specs.WellFormed.{WellFormed}
use Rattle.format.proofs.ByteLaws.{AllBytes}
use Rattle.format.proofs.KindLaws.{code-held, rings_parts}
use Rattle.format.proofs.NumberLaws.{length_two}
use Rattle.format.proofs.Laid.{length-shape, length_record}
use Rattle.format.proofs.Places.{Stands, stands_within}
use Rattle.format.proofs.Records.{first_read, second_read, two_stands, record_laid, in_header, in_shape, code_read}
use Rattle.rules.specs.Rules.{Taken, big_at, words_of}
use Rattle.rules.proofs.FaultLaws.{Fine}
use Rattle.meaning.proofs.Decode.{shape_at, Shaped}
use Rattle.meaning.proofs.Forms.{read, Back, back_as}
use Rattle.meaning.proofs.Table.{Known}

-- a well-formed shape of the kind, as record n at word w, with its numbers held
pub record Encodable (k : Kind) (n w : ℕ) (s : Shape) : Type 0 where
  pub of_kind : OfKind k s
  pub well : WellFormed k s
  pub number_held : Held n
  pub word_held : Held w
  pub words-held : Held (shape_words s)
  pub parts_held : Held (parts_in s)
  pub points_held : Held (points_in s)

module _ (t : Taken) (known : Known t) (l x : List ℕ) (w n : ℕ) where
  -- ---- from the bytes to the shape

  module _ (b : AllBytes l) (bx : AllBytes x) (f : Fine t l x (2 * w) n) where
    abbrev pub shape : Shape
    shape = shape_at t.kind t.form l

    pub shaped : Shaped t l shape
    shaped = read t.kind t.form l b known.form f.met

    pub encodable : Encodable t.kind n w shape
    encodable =
        record {
          of_kind = shaped.of_kind;
          well = shaped.well;
          number_held = f.number_held;
          word_held = omega (arith, f.offset, f.offset-held);
          words-held = rw shaped.words at f.words-held;
          parts_held = rw shaped.parts at f.parts_held;
          points_held = rw shaped.points at f.points_held;
        }

    pub record_stands : Stands 0 (record_bytes t.kind n shape) l
    record_stands =
        record_laid t.kind n shape l b (omega (arith, f.words-two, f.met.within)) f.number shaped.words f.code shaped.stands

    pub entry_stands : Stands 0 (two_big w (shape_words shape)) x
    entry_stands =
        let e : big_at 0 x ≡ w = omega (arith, f.offset) in
        let q : big_at 4 x ≡ shape_words shape = f.extent ∙ shaped.words in
        rw (e, q) at (two_stands x bx f.entry)

  -- ---- and from the shape to the bytes

  module _ (s : Shape) (g : Encodable t.kind n w s) (st : Stands 0 (record_bytes t.kind n s) l) (sx : Stands 0 (two_big w (shape_words s)) x) where
    at0 : Stands 0 (two_big n (shape_words s)) l
    at0 = in_header t.kind n s l 0 st

    pub words-read : words_of l ≡ shape_words s
    words-read = second_read n (shape_words s) 0 l at0 (omega (arith, g.words-held))

    pub read_back : Back t l s
    read_back = back_as t.kind l (rings_parts (pos t.kind.code) t.kind known.row) s g.of_kind g.well g.parts_held g.points_held words-read (in_shape t.kind n s l 0 st) t.form known.form

    within : 8 + 2 * shape_words s ≤ length l
    within =
        let e = length_record t.kind n s g.of_kind in
        omega (arith, stands_within 0 (record_bytes t.kind n s) l st (omega arith))

    entry : 8 ≤ length x
    entry =
        let e = length_two w (shape_words s) in
        omega (arith, stands_within 0 (two_big w (shape_words s)) x sx (omega arith))

    offset_read : big_at 0 x ≡ w
    offset_read = first_read w (shape_words s) 0 x sx (omega (arith, g.word_held))

    pub fine_record : Fine t l x (2 * w) n
    fine_record =
        record {
          header = omega (arith, within);
          number = first_read n (shape_words s) 0 l at0 (omega (arith, g.number_held));
          number_held = g.number_held;
          words-held = rw words-read g.words-held;
          words-two = omega (arith, words-read, length-shape t.kind s g.of_kind);
          entry = entry;
          offset-held = rw offset_read g.word_held;
          offset = ap (λ (i : ℕ). 2 * i) offset_read;
          extent = second_read w (shape_words s) 0 x sx (omega (arith, g.words-held)) ∙ sym words-read;
          code = code_read t.kind n s l 0 st (omega (arith, code-held (pos t.kind.code) t.kind known.row));
          parts_held = rw read_back.parts g.parts_held;
          points_held = rw read_back.points g.points_held;
          met = read_back.met (omega (arith, words-read, within));
        }
