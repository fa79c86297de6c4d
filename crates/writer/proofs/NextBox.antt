-- A well-formed shape leaves a finite box finite.
use mathlib.Core.Path.{◌≡◌, refl, sym, subst}
use mathlib.Core.Bool.{Bool, true, false}
use mathlib.Core.List.{List, [], ◌∷◌}
use Prim.Native.Nat.{ℕ}
use native.Mathlib.Omega.{arith}
use lib.Dec.{T}
use lib.Ieee.{Float}
use lib.ListN.{length, get_or}
use Rattle.format.specs.declared.kinds.Kind.{Kind}
use Rattle.format.specs.Lengths.{Form, nothing, one_point, many_points, several_form}
use Rattle.format.specs.Lengths
use Rattle.format.specs.Shapes.{Point}
use Rattle.format.specs.WellFormed.{DoublesFinite, WellFormed, ValueFinite, MeasureFinite}
use Rattle.header.specs.declared.bbox.BBoxZ.{BBoxZ}
use Rattle.boxes.specs.Boxes.{zero_double, flat, point_box}
use Rattle.boxes.proofs.FiniteBoxes.{FiniteDouble, FiniteBox, FiniteIf, zero-finite, start-finite, grown-finite, flat-finite}
use Rattle.layouts.specs.Tables.{measure_of, box_of, several_of}
use Rattle.layouts.proofs.TableLaws.{parts_are, multipoint_are}
use Rattle.writer.specs.declared.State.{State}
use Rattle.writer.specs.Adding.{Lent, lent_kind, lent_form, value_of, point_shape, lent_shape, held_box, box_then, next_state}
use Rattle.writer.specs.State.{is_zero}
use Rattle.writer.proofs.Accepted.{Accepted, point-tables}
use Rattle.writer.proofs.ShapeLaws.{lent-point, lent-several}

-- ---- what the shape gives to the box

value-finite : (flag : Bool) (vs : List Float) → ValueFinite (value_of flag vs) → flag ≡ true → FiniteDouble (get_or vs 0 zero_double)
value-finite true [] f e = zero-finite
value-finite true (x ∷ vs) f e = f
value-finite false vs f e = absurd (subst T (sym e) tt)

measure_finite : (flag : Bool) (low high : Float) (vs : List Float) → MeasureFinite (measure_of flag low high vs) → FiniteIf flag low high
measure_finite true low high vs f e = (f.0, f.1.0)
measure_finite false low high vs f e = absurd (subst T (sym e) tt)

point-finite : (k file : Kind) (xs ys zs ms : List Float) → length xs ≡ 1 → length ys ≡ 1 → WellFormed file (point_shape k xs ys zs ms)
    → FiniteBox (flat k (point_box xs ys zs ms))
point-finite k file [] ys zs ms e f w = absurd (omega arith)
point-finite k file (x ∷ xs) [] zs ms e f w = absurd (omega arith)
point-finite k file (x ∷ xs) (y ∷ ys) zs ms e f w =
    let z = value-finite k.z zs w.z_finite in
    let m = value-finite k.m ms w.m_finite in
    flat-finite k (point_box (x ∷ xs) (y ∷ ys) zs ms) w.x_finite w.y_finite w.x_finite w.y_finite (λ h. (z h, z h)) (λ h. (m h, m h))

module _ (k file : Kind) (b : BBoxZ) (counts : List ℕ) (xs ys zs ms : List Float) where
  by_doubles : (ps : List Point) → DoublesFinite (box_of b) ps (measure_of k.z b.zmin b.zmax zs) (measure_of k.m b.mmin b.mmax ms) → FiniteBox (flat k b)
  by_doubles ps d =
      let f = d.box_finite in
      flat-finite k b f.0 f.1.0 f.1.1.0 f.1.1.1.0 (measure_finite k.z _ _ zs d.z_finite) (measure_finite k.m _ _ ms d.m_finite)

  several-finite : (parts : Bool) → WellFormed file (several_of parts k.z k.m b counts xs ys zs ms) → FiniteBox (flat k b)
  several-finite true w = by_doubles _ (rw (parts_are k.z k.m b counts xs ys zs ms) at w.doubles)
  several-finite false w = by_doubles _ (rw (multipoint_are k.z k.m b xs ys zs ms) at w.doubles)

-- ---- the next state's box

module _ (s : State) (t : Lent) (a : Accepted s t) (file : Kind) (w : WellFormed file (lent_shape t)) (f : FiniteBox s.bbox) where
  held-finite : FiniteBox (held_box s)
  held-finite = go (is_zero s.kind) refl
    where
      go : (b : Bool) → is_zero s.kind ≡ b → FiniteBox (held_box s)
      go true e = rw e start-finite
      go false e = rw e f

  several : (parts : Bool) → lent_form t ≡ several_form parts → FiniteBox (flat (lent_kind t) t.box)
  several parts e = several-finite (lent_kind t) file t.box t.counts t.xs t.ys t.zs t.ms parts (subst (WellFormed file) (lent-several t parts e) w)

  pub next_finite : FiniteBox (next_state s t).bbox
  unfolding next_state
  next_finite = go (lent_form t) refl
    where
      go : (form : Form) → lent_form t ≡ form → FiniteBox (box_then form s t)
      go nothing e = f
      go one_point e =
          let u = point-tables s t a e in
          grown-finite _ _ (point-finite (lent_kind t) file t.xs t.ys t.zs t.ms u.xs_has u.ys_has (subst (WellFormed file) (lent-point t e) w)) held-finite
      go many_points e = grown-finite _ _ (several false e) held-finite
      go Lengths.parts e = grown-finite _ _ (several true e) held-finite
