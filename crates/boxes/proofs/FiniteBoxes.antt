-- Boxes of finite doubles: each value of a box that has grown or was settled is one of those that were there, a start value or 0.
use mathlib.Core.Path.{◌≡◌, refl, sym, subst}
use mathlib.Core.Bool.{Bool, true, false, cond}
use Prim.Native.Nat.{ℕ, ◌^◌, ◌<◌}
use native.Mathlib.Omega.{arith}
use lib.Ieee.{Float, binary64, of_bits, to_bits, lt}
use Rattle.format.specs.declared.kinds.Kind.{Kind}
use Rattle.format.specs.Numbers.{finite}
use Rattle.format.specs.WellFormed.{Finite, BoxFinite}
use Rattle.format.proofs.FiniteLaws.{finite-bits}
use Rattle.header.specs.declared.bbox.BBoxZ.{BBoxZ}
use Rattle.header.specs.Box.{box_bits}
use Rattle.boxes.specs.Boxes.{least, greatest, zero_double, largest, smallest, zero_box, start_box, grown, flat, untouched, settled}
use Rattle.boxes.proofs.BoxLaws.{zero-double-bits}

abbrev pub FiniteDouble : Float → Type 0
FiniteDouble x = Finite (to_bits binary64 x)

pub record FiniteBox (b : BBoxZ) : Type 0 where
  pub xmin : FiniteDouble b.xmin
  pub ymin : FiniteDouble b.ymin
  pub xmax : FiniteDouble b.xmax
  pub ymax : FiniteDouble b.ymax
  pub zmin : FiniteDouble b.zmin
  pub zmax : FiniteDouble b.zmax
  pub mmin : FiniteDouble b.mmin
  pub mmax : FiniteDouble b.mmax

pub bits-finite : (b : BBoxZ) → FiniteBox b → BoxFinite (box_bits b)
bits-finite b f = (f.xmin, (f.ymin, (f.xmax, (f.ymax, (f.zmin, (f.zmax, (f.mmin, (f.mmax, tt))))))))

-- ---- the values that a box starts with

by_bits : (x : Float) (d : ℕ) → to_bits binary64 x ≡ d → d < 2 ^ 64 → finite d ≡ true → FiniteDouble x
by_bits x d e h f = subst Finite (sym e) (record { bits = h; finite = f })

pub zero-finite : FiniteDouble zero_double
zero-finite = by_bits zero_double 0 zero-double-bits (omega arith) (finite-bits 0)

largest-finite : FiniteDouble largest
unfolding to_bits of_bits
largest-finite = by_bits largest 0x7fef_ffff_ffff_ffff refl (omega arith) (finite-bits 0x7fef_ffff_ffff_ffff)

smallest-finite : FiniteDouble smallest
unfolding to_bits of_bits
smallest-finite = by_bits smallest 0xffef_ffff_ffff_ffff refl (omega arith) (finite-bits 0xffef_ffff_ffff_ffff)

pub zero-box-finite : FiniteBox zero_box
zero-box-finite =
    let z = zero-finite in
    record { xmin = z; ymin = z; xmax = z; ymax = z; zmin = z; zmax = z; mmin = z; mmax = z }

pub start-finite : FiniteBox start_box
start-finite =
    let l = largest-finite in
    let s = smallest-finite in
    record { xmin = l; ymin = l; xmax = s; ymax = s; zmin = l; zmax = s; mmin = l; mmax = s }

-- ---- what is made of them

either : (b : Bool) (x y : Float) → (b ≡ true → FiniteDouble x) → (b ≡ false → FiniteDouble y) → FiniteDouble (cond b x y)
either true x y f g = f refl
either false x y f g = g refl

-- one of two finite ones
chosen : (b : Bool) (x y : Float) → FiniteDouble x → FiniteDouble y → FiniteDouble (cond b x y)
chosen b x y f g = either b x y (λ e. f) (λ e. g)

module _ (a b : Float) (f : FiniteDouble a) (g : FiniteDouble b) where
  least-finite : FiniteDouble (least a b)
  least-finite = chosen (lt a b) a b f g

  greatest-finite : FiniteDouble (greatest a b)
  greatest-finite = chosen (lt b a) a b f g

pub grown-finite : (own held : BBoxZ) → FiniteBox own → FiniteBox held → FiniteBox (grown own held)
grown-finite own held f g =
    record {
      xmin = least-finite _ _ f.xmin g.xmin;
      ymin = least-finite _ _ f.ymin g.ymin;
      xmax = greatest-finite _ _ f.xmax g.xmax;
      ymax = greatest-finite _ _ f.ymax g.ymax;
      zmin = least-finite _ _ f.zmin g.zmin;
      zmax = greatest-finite _ _ f.zmax g.zmax;
      mmin = least-finite _ _ f.mmin g.mmin;
      mmax = greatest-finite _ _ f.mmax g.mmax;
    }

pub settled-finite : (b : BBoxZ) → FiniteBox b → FiniteBox (settled b)
settled-finite b f =
    let z = untouched b.zmin b.zmax in
    let m = untouched b.mmin b.mmax in
    record {
      xmin = f.xmin;
      ymin = f.ymin;
      xmax = f.xmax;
      ymax = f.ymax;
      zmin = chosen z zero_double b.zmin zero-finite f.zmin;
      zmax = chosen z zero_double b.zmax zero-finite f.zmax;
      mmin = chosen m zero_double b.mmin zero-finite f.mmin;
      mmax = chosen m zero_double b.mmax zero-finite f.mmax;
    }

-- a range that the kind has, or 0 twice
abbrev pub FiniteIf : Bool → Float → Float → Type 0
FiniteIf flag low high = flag ≡ true → FiniteDouble low × FiniteDouble high

pub flat-finite : (k : Kind) (b : BBoxZ) → FiniteDouble b.xmin → FiniteDouble b.ymin → FiniteDouble b.xmax → FiniteDouble b.ymax
    → FiniteIf k.z b.zmin b.zmax → FiniteIf k.m b.mmin b.mmax → FiniteBox (flat k b)
flat-finite k b x0 y0 x1 y1 z m =
    record {
      xmin = x0;
      ymin = y0;
      xmax = x1;
      ymax = y1;
      zmin = either k.z _ _ (λ e. (z e).0) (λ e. zero-finite);
      zmax = either k.z _ _ (λ e. (z e).1) (λ e. zero-finite);
      mmin = either k.m _ _ (λ e. (m e).0) (λ e. zero-finite);
      mmax = either k.m _ _ (λ e. (m e).1) (λ e. zero-finite);
    }
