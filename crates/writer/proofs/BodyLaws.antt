-- Laws of a shape's body by its kind: a point's values, or what the writer of several points leaves.
use mathlib.Core.Path.{◌≡◌, refl, sym, ap, ◌∙◌}
use mathlib.Core.Bool.{Bool, true, false, cond}
use mathlib.Core.List.{List, [], ◌∷◌, ◌++◌, append-nil, append_assoc}
use Prim.Native.Nat.{ℕ, ◌+◌, ◌*◌, ◌≤◌}
use native.Mathlib.Omega.{arith}
use lib.Dec.{eqb}
use lib.Ieee.{Float}
use lib.IntN.{ℤ, pos}
use lib.ListN.{length}
use lib.Seq.{sets}
use mir.Syntax.{w32}
use mir.Val.{of_z}
use Rattle.format.specs.declared.kinds.Kind.{Kind}
use Rattle.format.specs.declared.units.Words.{Words}
use Rattle.format.specs.Encoding.{shape_bytes, shape_words, value_bytes, two_big, record_bytes}
use Rattle.format.specs.Lengths.{one_point, has_several, content_words}
use Rattle.format.specs.Numbers.{little, f64_le, f64s_le}
use Rattle.format.specs.Said.{Said, gives, unless_refused}
use Rattle.format.specs.Shapes.{Shape}
use Rattle.format.proofs.Equations as Equations
use Rattle.format.proofs.Equations.{f64_le-is, f64s_le-nil, f64s_le-cons, words_are, fixed_point, each_point, shape-null, shape-point, content-bytes}
use Rattle.format.proofs.LengthLaws.{some_words}
use Rattle.header.specs.declared.bbox.BBoxZ.{BBoxZ}
use Rattle.std.specs.Prelude.{Result}
use Rattle.layouts.specs.declared.LayoutError.{LayoutError}
use Rattle.layouts.specs.Answers.{lent_size, layout_of, WritesBody}
use Rattle.layouts.specs.Steps.{Agreed}
use Rattle.layouts.specs.Tables.{several_of}
use Rattle.layouts.proofs.JudgeLaws.{all_pass}
use Rattle.layouts.proofs.TableLaws.{pair_is}
use Rattle.writer.specs.Adding.{value_of, point_shape}
use Rattle.writer.specs.Judging.{form_by, shape_by, words_by, words_of, Ready, points_by}
use Rattle.writer.proofs.ShapeLaws.{tables}

-- ---- a point

one_double : (x : Float) (xs : List Float) → length (x ∷ xs) ≡ 1 → f64s_le (x ∷ xs) ≡ f64_le x
one_double x [] e = rw (f64s_le-cons, f64s_le-nil, append-nil)
one_double x (y ∷ xs) e = absurd (omega arith)

value-bytes : (flag : Bool) (vs : List Float) → length vs ≡ cond flag 1 0 → value_bytes (value_of flag vs) ≡ f64s_le vs
value-bytes true [] e = absurd (omega arith)
value-bytes true (x ∷ vs) e = sym (one_double x vs e ∙ f64_le-is x)
value-bytes false [] e = sym f64s_le-nil
value-bytes false (x ∷ vs) e = absurd (omega arith)

point-bytes : (k : Kind) (xs ys zs ms : List Float) → Agreed k.z k.m 1 xs ys zs ms → shape_bytes (point_shape k xs ys zs ms) ≡ f64s_le xs ++ (f64s_le ys ++ (f64s_le zs ++ f64s_le ms))
point-bytes k [] ys zs ms a = absurd (omega (arith, a.xs_has))
point-bytes k (x ∷ xs) [] zs ms a = absurd (omega (arith, a.ys_has))
point-bytes k (x ∷ xs) (y ∷ ys) zs ms a =
    rw (shape-point, pair_is, value-bytes k.z zs a.zs_has, value-bytes k.m ms a.ms_has, one_double x xs a.xs_has, one_double y ys a.ys_has)
    (append_assoc (f64_le x) (f64_le y) (f64s_le zs ++ f64s_le ms))

given : (flag : Bool) → cond flag 4 0 + cond flag 4 0 ≡ 8 * cond flag 1 0
given true = refl
given false = refl

module _ (k : Kind) (b : BBoxZ) (counts : List ℕ) (xs ys zs ms : List Float) where
  module _ (bytes : ℕ) (r : Ready k counts xs ys zs ms bytes) where
    all : Agreed k.z k.m (points_by k counts xs) xs ys zs ms
    all = tables k counts xs ys zs ms r.agrees

    one : has_several k ≡ false → eqb k.code 0 ≡ false → Agreed k.z k.m 1 xs ys zs ms
    one e f = rw (e, f) at all

    -- what the point's writer asks
    pub point-room : has_several k ≡ false → eqb k.code 0 ≡ false → (length xs ≡ 1) × (length ys ≡ 1) × (16 + 8 * length zs + 8 * length ms ≤ bytes)
    point-room e f =
        let a = one e f in
        let w : 2 * content_words one_point k.z k.m (length counts) 1 ≤ 4 + bytes = rw (e, f) at r.room in
        let v : 2 * (10 + cond k.z 4 0 + cond k.m 4 0 + 2 * length counts + 0 * 1) ≤ 4 + bytes = rw (words_are, fixed_point, each_point) at w in
        (a.xs_has, a.ys_has, omega (arith, a.zs_has, a.ms_has, given k.z, given k.m))

    pub point-body : has_several k ≡ false → eqb k.code 0 ≡ false → f64s_le xs ++ (f64s_le ys ++ (f64s_le zs ++ f64s_le ms)) ≡ shape_bytes (shape_by k b counts xs ys zs ms)
    point-body e f = rw (e, f) (sym (point-bytes k xs ys zs ms (one e f)))

  -- ---- Null, and several points

  pub null-body : has_several k ≡ false → eqb k.code 0 ≡ true → shape_bytes (shape_by k b counts xs ys zs ms) ≡ []
  null-body e f = rw (e, f) shape-null

  module _ (out : List ℕ) (r : Ready k counts xs ys zs ms (length out)) (e : has_several k ≡ true) where
    gives_all : layout_of k.parts k.z k.m counts xs ys zs ms (length out) ≡ gives (lent_size k.parts k.z k.m counts xs)
    gives_all = all_pass k.parts k.z k.m counts xs ys zs ms (length out) (rw e at r.agrees) r.counts-held (rw e at r.room)

    pub several-body : (answer : Result ℕ LayoutError) (out' : List ℕ) → WritesBody k.parts k.z k.m b counts xs ys zs ms out answer out' → out' ≡ sets out 0 (shape_bytes (shape_by k b counts xs ys zs ms))
    several-body answer out' h =
        h.out_is
        ∙ (ap (λ (s : Said ℕ). unless_refused s out (sets out 0 (shape_bytes (several_of k.parts k.z k.m b counts xs ys zs ms)))) (h.says ∙ gives_all)
        ∙ rw e)

-- ---- the record

pub words-least : (k : Kind) (counts : List ℕ) (xs : List Float) → 2 ≤ words_by k counts xs
words-least k counts xs = some_words (form_by k) k.z k.m (length counts) (points_by k counts xs)

pub record_is : (k : Kind) (s : Shape) (n w : ℕ) (content : Words) (code : ℤ) → content ≡ words_of w → shape_words s ≡ w → code ≡ pos k.code → two_big n (of_z w32 content.0) ++ (little (of_z w32 code) ++ shape_bytes s) ≡ record_bytes k n s
record_is k s n w content code e f g = rw (e, g, Equations.record_is, content-bytes, f)
