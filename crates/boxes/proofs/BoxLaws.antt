-- Laws of doubles in boxes: the code's 0.0 is the definition's 0.
use mathlib.Core.Path.{◌≡◌, refl, ap, ◌∙◌}
use mathlib.Core.Bool.{Bool, true, false, cond}
use lib.Ieee.{Float, binary64, of_bits, of_int, to_bits}
use Rattle.header.specs.Box.{box_bits}
use Rattle.boxes.specs.Boxes as Boxes

pub zero_is : of_bits binary64 0 ≡ Boxes.zero_double
unfolding of_bits of_int
zero_is = refl

-- ---- the box of zeros, by its bits

pub zero-double-bits : to_bits binary64 Boxes.zero_double ≡ 0
unfolding to_bits of_int
zero-double-bits = refl

cond_same : (b : Bool) (x : Float) → cond b x x ≡ x
cond_same true x = refl
cond_same false x = refl

-- it is settled as it is
zero_settled : Boxes.settled Boxes.zero_box ≡ Boxes.zero_box
zero_settled =
    let z = cond_same (Boxes.untouched Boxes.zero_double Boxes.zero_double) Boxes.zero_double in
    λ i.
    record {
      xmin = Boxes.zero_double;
      ymin = Boxes.zero_double;
      xmax = Boxes.zero_double;
      ymax = Boxes.zero_double;
      zmin = z i;
      zmax = z i;
      mmin = z i;
      mmax = z i;
    }

pub zero-box-bits : box_bits (Boxes.settled Boxes.zero_box) ≡ record { xmin = 0; ymin = 0; xmax = 0; ymax = 0; zmin = 0; zmax = 0; mmin = 0; mmax = 0 }
zero-box-bits =
    ap box_bits zero_settled
    ∙ (let z = zero-double-bits in λ i. record { xmin = z i; ymin = z i; xmax = z i; ymax = z i; zmin = z i; zmax = z i; mmin = z i; mmax = z i })
