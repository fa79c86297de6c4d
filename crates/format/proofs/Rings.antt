-- Whether a part is closed, by the places of its first and its last point among all the points.
use mathlib.Core.Path.{◌≡◌, refl, ◌∙◌}
use mathlib.Core.Bool.{Bool, true, false, cond}
use mathlib.Core.List.{List, [], ◌∷◌}
use Prim.Native.Nat.{ℕ, suc, ◌+◌, ◌-◌, ◌≤◌, ◌<◌}
use native.Mathlib.Omega.{arith}
use lib.ListN.{length, take, drop, get_or, length-drop}
use lib.Seq.{length-take-le, get_or-take, get_or-drop}
use Rattle.format.specs.declared.kinds.Kind.{Kind}
use Rattle.format.specs.Shapes.{Point}
use Rattle.format.specs.WellFormed.{has_rings, least_points, same_place, last_from, closed_ring}
use Rattle.format.proofs.Pairs.{nowhere}

pub least_some : (k : Kind) → 1 ≤ least_points k
unfolding least_points
least_some k = go (has_rings k)
  where
    go : (b : Bool) → 1 ≤ cond b 4 2
    go true = omega arith
    go false = omega arith

last_at : (p : Point) (ps : List Point) → last_from p ps ≡ get_or (p ∷ ps) (length ps) nowhere
last_at p [] = refl
last_at p (q ∷ ps) = last_at q ps

closed_at : (ps : List Point) → 1 ≤ length ps → closed_ring ps ≡ same_place (get_or ps 0 nowhere) (get_or ps (length ps - 1) nowhere)
unfolding closed_ring
closed_at [] h = absurd (omega arith)
closed_at (p ∷ ps) h = let e : suc (length ps) - 1 ≡ length ps = omega arith in rw (e, last_at p ps)

-- the part from point cur to the one before e
pub part_closed : (ps : List Point) (cur e : ℕ) → cur < e → e ≤ length ps
    → closed_ring (take (e - cur) (drop cur ps)) ≡ same_place (get_or ps cur nowhere) (get_or ps (e - 1) nowhere)
part_closed ps cur e h k =
    let t : length (take (e - cur) (drop cur ps)) ≡ e - cur = length-take-le (e - cur) (drop cur ps) (rw length-drop (omega arith)) in
    let a : cur + 0 ≡ cur = omega arith in
    let b : cur + (e - cur - 1) ≡ e - 1 = omega arith in
    closed_at (take (e - cur) (drop cur ps)) (omega arith)
    ∙ rw (
      t,
      get_or-take (e - cur) (drop cur ps) 0 nowhere (omega arith),
      get_or-take (e - cur) (drop cur ps) (e - cur - 1) nowhere (omega arith),
      get_or-drop cur ps 0 nowhere,
      get_or-drop cur ps (e - cur - 1) nowhere,
      a,
      b,
    )
