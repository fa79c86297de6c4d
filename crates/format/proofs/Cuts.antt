-- A run of points cut into parts by where they end: what is cut and laid together again is as it was, and so are the ends and the starts.
use mathlib.Core.Path.{◌≡◌, refl, sym, ap}
use mathlib.Core.List.{List, [], ◌∷◌, ◌++◌, flatten, map}
use Prim.Native.Nat.{ℕ, suc, ◌+◌, ◌-◌, ◌^◌, ◌≤◌, ◌<◌}
use native.Mathlib.Nat.{add-zero}
use native.Mathlib.Omega.{arith}
use lib.ListN.{length, take, drop, length-append, length-drop, take-append-drop}
use lib.Seq.{length-take-le, take_at, drop_at}
use Rattle.format.specs.declared.kinds.Kind.{Kind}
use Rattle.format.specs.Bytes.{Fit}
use Rattle.format.specs.Encoding.{starts_from}
use Rattle.format.specs.Shapes.{Point, sum}
use Rattle.format.specs.WellFormed.{least_points, PartsFine}

-- where each part ends, the first of them from point cur on
unfoldable pub ends_from : ℕ → List (List Point) → List ℕ
ends_from cur [] = []
ends_from cur (part ∷ parts) = (cur + length part) ∷ ends_from (cur + length part) parts

-- the parts that end there
unfoldable pub cut : ℕ → List ℕ → List Point → List (List Point)
cut cur [] ps = []
cut cur (e ∷ es) ps = take (e - cur) ps ∷ cut e es (drop (e - cur) ps)

pub cut_nil : (cur : ℕ) (ps : List Point) → cut cur [] ps ≡ []
unfolding cut
cut_nil cur ps = refl

pub cut_cons : (cur e : ℕ) (es : List ℕ) (ps : List Point) → cut cur (e ∷ es) ps ≡ take (e - cur) ps ∷ cut e es (drop (e - cur) ps)
unfolding cut
cut_cons cur e es ps = refl

-- each has at least so many points, and the last one ends at n
abbrev pub Rise : ℕ → ℕ → List ℕ → ℕ → Type 0
Rise least cur [] n = cur ≡ n
Rise least cur (e ∷ es) n = (cur + least ≤ e) × Rise least e es n

pub rise_le : (least cur : ℕ) (es : List ℕ) (n : ℕ) → Rise least cur es n → cur ≤ n
rise_le least cur [] n r = omega arith
rise_le least cur (e ∷ es) n r = omega (arith, rise_le least e es n r.1)

pub length_cut : (cur : ℕ) (es : List ℕ) (ps : List Point) → length (cut cur es ps) ≡ length es
unfolding cut
length_cut cur [] ps = refl
length_cut cur (e ∷ es) ps = ap suc (length_cut e es (drop (e - cur) ps))

-- as many points as the parts have together
pub sum-parts : (parts : List (List Point)) → sum (map length parts) ≡ length (flatten parts)
unfolding flatten
sum-parts [] = refl
sum-parts (part ∷ parts) = omega (arith, length-append part (flatten parts), sum-parts parts)

-- the starts, and the end behind them
pub starts_ends : (cur : ℕ) (parts : List (List Point)) → starts_from cur parts ++ ((cur + length (flatten parts)) ∷ []) ≡ cur ∷ ends_from cur parts
unfolding starts_from ends_from flatten
starts_ends cur [] = rw add-zero refl
starts_ends cur (part ∷ parts) =
    let e : cur + length (part ++ flatten parts) ≡ cur + length part + length (flatten parts) = omega (arith, length-append part (flatten parts)) in
    rw e (ap (◌∷◌ cur) (starts_ends (cur + length part) parts))

pub length-starts_from : (cur : ℕ) (parts : List (List Point)) → length (starts_from cur parts) ≡ length parts
unfolding starts_from
length-starts_from cur [] = refl
length-starts_from cur (part ∷ parts) = ap suc (length-starts_from (cur + length part) parts)

-- an i32 field holds them
pub fit_starts : (cur : ℕ) (parts : List (List Point)) → cur + length (flatten parts) < 2 ^ 32 → Fit 4 (starts_from cur parts)
unfolding starts_from flatten
fit_starts cur [] h = tt
fit_starts cur (part ∷ parts) h = (omega arith, fit_starts (cur + length part) parts (omega (arith, length-append part (flatten parts))))

pub cut_ends : (cur : ℕ) (parts : List (List Point)) → cut cur (ends_from cur parts) (flatten parts) ≡ parts
unfolding cut ends_from flatten
cut_ends cur [] = refl
cut_ends cur (part ∷ parts) =
    let e : cur + length part - cur ≡ length part = omega arith in
    rw (e, take_at part (flatten parts) (length part) refl, drop_at part (flatten parts) (length part) refl)
    (ap (◌∷◌ part) (cut_ends (cur + length part) parts))

module _ (least : ℕ) where
  pub flatten_cut : (cur : ℕ) (es : List ℕ) (ps : List Point) (n : ℕ) → Rise least cur es n → cur + length ps ≡ n → flatten (cut cur es ps) ≡ ps
  unfolding cut flatten
  flatten_cut cur [] [] n r h = refl
  flatten_cut cur [] (p ∷ ps) n r h = absurd (omega arith)
  flatten_cut cur (e ∷ es) ps n r h =
      let l : e ≤ n = rise_le least e es n r.1 in
      rw (flatten_cut e es (drop (e - cur) ps) n r.1 (rw length-drop (omega arith))) (take-append-drop (e - cur) ps)

  pub ends_cut : (cur : ℕ) (es : List ℕ) (ps : List Point) (n : ℕ) → Rise least cur es n → cur + length ps ≡ n → ends_from cur (cut cur es ps) ≡ es
  unfolding cut ends_from
  ends_cut cur [] ps n r h = refl
  ends_cut cur (e ∷ es) ps n r h =
      let l : e ≤ n = rise_le least e es n r.1 in
      let t : length (take (e - cur) ps) ≡ e - cur = length-take-le (e - cur) ps (omega arith) in
      let q : cur + length (take (e - cur) ps) ≡ e = omega arith in
      rw q (ap (◌∷◌ e) (ends_cut e es (drop (e - cur) ps) n r.1 (rw length-drop (omega arith))))

-- parts that are well-formed have their ends so
pub rise_fine : (k : Kind) (cur : ℕ) (parts : List (List Point)) → PartsFine k parts → Rise (least_points k) cur (ends_from cur parts) (cur + length (flatten parts))
unfolding ends_from flatten
rise_fine k cur [] f = sym (add-zero cur)
rise_fine k cur (part ∷ parts) f =
    let e : cur + length (part ++ flatten parts) ≡ cur + length part + length (flatten parts) = omega (arith, length-append part (flatten parts)) in
    (omega (arith, f.0), rw e (rise_fine k (cur + length part) parts f.2))
