-- The content of a shape of a taken kind: the kind's field is found, and the tests in front of the shape pass.
use mathlib.Core.Path.{◌≡◌, sym}
use mathlib.Core.Option.{some}
use Prim.Native.Nat.{ℕ, ◌+◌, ◌*◌, ◌^◌, ◌<◌}
use native.Mathlib.Omega.{arith}
use lib.IntN.{pos}
use lib.ListN.{length}
use borrow.Author.Tests.{le-leb, lt-ltb}
use Rattle.std.specs.Prelude.{None}
use Rattle.format.specs.declared.kinds.Kind.{Kind}
use Rattle.format.specs.Encoding.{content, shape_bytes, shape_words}
use Rattle.format.specs.Kinds.{kind_at}
use Rattle.format.specs.Lengths.{form_of}
use Rattle.format.specs.Order.{first}
use Rattle.format.specs.Said.{Said}
use Rattle.format.specs.Shapes.{Shape, OfKind}
use Rattle.format.proofs.KindLaws.{code-held, known_some}
use Rattle.format.proofs.Laid.{length-shape, length-content, content-code}
use Rattle.rules.specs.Meaning.{TakenKind}
use Rattle.multipart.proofs.StartLaws.{difference}
use Rattle.record.specs.Reading.{Shaped, code_in, front_tests, by_form, record_of}
use Rattle.record.proofs.ShapeLaws.{by-kind}
use Rattle.readback.specs.ReadBack.{Small, size}

module _ (k : Kind) (s : Shape) (t : TakenKind k) where
  pub code-back : code_in (content k s) ≡ pos k.code
  code-back = content-code k s (code-held (pos k.code) k t.in_table)

  pub kind-back : kind_at (code_in (content k s)) ≡ some k
  kind-back = rw code-back t.in_table

  module _ (o : OfKind k s) (small : Small s) where
    front_pass : (a : Said Shaped) → first (front_tests None (size s) (content k s)) a ≡ a
    front_pass a =
        let w : 2 * shape_words s ≡ 4 + length (shape_bytes s) = omega (arith, length-shape k s o) in
        let h : length (shape_bytes s) < 2 ^ 31 = omega arith in
        rw (
          le-leb 4 (length (content k s)) (omega (arith, length-content k s o)),
          known_some (code_in (content k s)) k kind-back,
          kind-back,
          w,
          difference 4 (length (shape_bytes s)),
          lt-ltb (length (shape_bytes s)) (2 ^ 31) h,
          t.taken,
        )

    pub read_as : (counts xs ys zs ms : ℕ)
        → record_of None (size s) (content k s) counts xs ys zs ms ≡ by_form (form_of k) k (size s) (content k s) counts xs ys zs ms
    read_as counts xs ys zs ms = sym (by-kind None (size s) (content k s) k counts xs ys zs ms front_pass kind-back)
