-- What follows once a record is added: the next state's numbers, and the headers of that state; and the headers of any.
use mathlib.Core.Path.{◌≡◌, refl, ap}
use Prim.Native.Nat.{ℕ, ◌+◌, ◌*◌, ◌-◌}
use native.Mathlib.Omega.{arith}
use lib.IntN.{pos, nat_abs}
use Rattle.format.specs.Encoding.{Box, header_bytes}
use Rattle.header.specs.Box.{box_bits}
use Rattle.boxes.specs.Boxes.{settled}
use Rattle.writer.specs.declared.State.{State}
use Rattle.writer.specs.Adding.{Lent, lent_form, words_then, points_then, kind_then, box_then, next_state}
use Rattle.writer.specs.Finishing.{shp_header, shx_header}

module _ (s : State) (t : Lent) where
  pub next_is : next_state s t ≡ record {
    words = record { 0 = pos (words_then s t) };
    number = pos (nat_abs s.number + 1);
    kind = kind_then (lent_form t) s t;
    points = points_then s t;
    bbox = box_then (lent_form t) s t;
  }
  unfolding next_state
  next_is = refl

  pub words_next : (next_state s t).words.0 ≡ pos (words_then s t)
  unfolding next_state
  words_next = refl

  pub number_next : (next_state s t).number ≡ pos (nat_abs s.number + 1)
  unfolding next_state
  number_next = refl

  pub points_next : (next_state s t).points ≡ points_then s t
  unfolding next_state
  points_next = refl

  abbrev box : Box
  box = box_bits (settled (next_state s t).bbox)

  pub shp_next : shp_header (next_state s t) ≡ header_bytes (words_then s t) 1000 (nat_abs (next_state s t).kind) box
  unfolding shp_header next_state
  shp_next = refl

  pub shx_next : shx_header (next_state s t) ≡ header_bytes (50 + 4 * nat_abs s.number) 1000 (nat_abs (next_state s t).kind) box
  unfolding shx_header next_state
  shx_next = ap (λ (w : ℕ). header_bytes w 1000 (nat_abs (next_state s t).kind) box) (omega arith)

-- the headers of a state
module _ (s : State) where
  pub shp-header : shp_header s ≡ header_bytes (nat_abs s.words.0) 1000 (nat_abs s.kind) (box_bits (settled s.bbox))
  unfolding shp_header
  shp-header = refl

  pub shx-header : shx_header s ≡ header_bytes (50 + 4 * (nat_abs s.number - 1)) 1000 (nat_abs s.kind) (box_bits (settled s.bbox))
  unfolding shx_header
  shx-header = refl
