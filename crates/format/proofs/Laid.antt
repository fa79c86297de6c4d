-- A shape's bytes as runs of numbers, their length, and the kind's field in front of them.
use mathlib.Core.Path.{◌≡◌, refl, sym}
use mathlib.Core.Bool.{Bool, true, false}
use mathlib.Core.List.{List, [], ◌∷◌, ◌++◌, map, flatten, append-nil, append_assoc}
use mathlib.Core.Option.{Option, none, some}
use Prim.Native.Nat.{ℕ, ◌+◌, ◌*◌, ◌^◌, ◌<◌}
use native.Mathlib.Omega.{arith}
use lib.IntN.{pos}
use lib.ListN.{length, drop, length-append}
use lib.Seq.{drop_at}
use Rattle.format.specs.declared.kinds.Kind.{Kind}
use Rattle.format.specs.Bytes.{le_bytes}
use Rattle.format.specs.Encoding.{doubles, point_bytes, box_bytes, starts_from, value_bytes, measure_bytes, points_bytes, multipoint_bytes, parts_bytes, shape_bytes, content, shape_words, record_bytes}
use Rattle.format.specs.Lengths.{nothing, one_point, several_form, front_words, fixed_words, point_words, content_words}
use Rattle.format.specs.Numbers.{little, double, le_i32}
use Rattle.format.specs.Shapes.{Point, BoxXY, Measure, Multipoint, Parts, Shape, null, point, multipoint, parted, there, Covers, MeasuresOf, OfKind}
use Rattle.format.specs.WellFormed.{coordinates}
use Rattle.format.proofs.ByteLaws.{length_le_bytes}
use Rattle.format.proofs.NumberLaws.{length-little, length_two}
use Rattle.format.proofs.Places.{in_front}
use Rattle.format.proofs.Runs.{run, run_append, length_run, i32_back}
use Rattle.format.proofs.Doubles.{value, measured, write_if, RightIf, all, count, length_all}
use Rattle.format.proofs.Cuts.{length-starts_from}

-- ---- words

pub nothing-words : (z m : Bool) → content_words nothing z m 0 0 ≡ 2
unfolding content_words fixed_words point_words
nothing-words z m = refl

pub null-words : shape_words null ≡ 2
unfolding shape_words content_words fixed_words point_words
null-words = refl

pub point-words : (z m : Bool) → content_words one_point z m 0 1 ≡ 2 + 4 * count value 1 z m
unfolding content_words fixed_words point_words
point-words false false = refl
point-words false true = refl
point-words true false = refl
point-words true true = refl

-- several points, in p parts or in none: what is in front of them, and their doubles
pub several-words : (f z m : Bool) (p n : ℕ) → (f ≡ false → p ≡ 0) → content_words (several_form f) z m p n ≡ front_words (several_form f) p + 4 * count (measured n) n z m
unfolding content_words front_words fixed_words point_words
several-words true false false p n h = omega arith
several-words true false true p n h = omega arith
several-words true true false p n h = omega arith
several-words true true true p n h = omega arith
several-words false false false p n h = omega (arith, h refl)
several-words false false true p n h = omega (arith, h refl)
several-words false true false p n h = omega (arith, h refl)
several-words false true true p n h = omega (arith, h refl)

-- ---- runs

pub points-doubles : (ps : List Point) → flatten (map point_bytes ps) ≡ doubles (coordinates ps)
unfolding flatten point_bytes doubles
points-doubles [] = refl
points-doubles (p ∷ ps) = rw (points-doubles ps, append_assoc)

pub measure_doubles : (r : Measure) → measure_bytes (some r) ≡ doubles (r.low ∷ r.high ∷ r.values)
unfolding flatten doubles
measure_doubles r = refl

value_run : (o : Option ℕ) → value_bytes o ≡ run 8 (write_if value o)
unfolding flatten double
value_run none = refl
value_run (some d) = sym (append-nil (le_bytes 8 d))

measure_run : (n : ℕ) (o : Option Measure) → measure_bytes o ≡ run 8 (write_if (measured n) o)
unfolding flatten double doubles
measure_run n none = refl
measure_run n (some r) = refl

-- the doubles of a point, and those of several points: x and y of each, then z and m
abbrev pub point_doubles : Point → Option ℕ → Option ℕ → List ℕ
point_doubles xy z m = all value (xy ∷ []) z m

unfoldable pub points_doubles : List Point → Option Measure → Option Measure → List ℕ
points_doubles ps z m = all (measured (length ps)) ps z m

pub doubles_are : (ps : List Point) (z m : Option Measure) → points_doubles ps z m ≡ all (measured (length ps)) ps z m
unfolding points_doubles
doubles_are ps z m = refl

abbrev pub multipoint_doubles : Multipoint → List ℕ
multipoint_doubles s = points_doubles s.points s.z s.m

abbrev pub parts_doubles : Parts → List ℕ
parts_doubles s = points_doubles (flatten s.parts) s.z s.m

abbrev pub box_doubles : BoxXY → List ℕ
box_doubles b = b.xmin ∷ b.ymin ∷ b.xmax ∷ b.ymax ∷ []

pub point_laid : (xy : Point) (z m : Option ℕ) → shape_bytes (point xy z m) ≡ run 8 (point_doubles xy z m)
unfolding shape_bytes point_bytes flatten double
point_laid xy z m = rw (value_run z, value_run m, run_append 8 (write_if value z) (write_if value m), append_assoc)

module _ (ps : List Point) (z m : Option Measure) where
  abbrev n : ℕ
  n = length ps

  -- of these the points, then z and m
  pub doubles_laid : run 8 (points_doubles ps z m) ≡ run 8 (coordinates ps) ++ (run 8 (write_if (measured n) z) ++ run 8 (write_if (measured n) m))
  unfolding points_doubles
  doubles_laid =
      rw (← run_append 8 (write_if (measured n) z) (write_if (measured n) m))
      (run_append 8 (coordinates ps) (write_if (measured n) z ++ write_if (measured n) m))

  points_laid : points_bytes ps z m ≡ run 8 (points_doubles ps z m)
  unfolding points_bytes doubles double
  points_laid = rw (points-doubles ps, measure_run n z, measure_run n m, doubles_laid)

pub multipoint_laid : (s : Multipoint) → shape_bytes (multipoint s) ≡ run 8 (box_doubles s.box) ++ (le_bytes 4 (length s.points) ++ run 8 (multipoint_doubles s))
unfolding shape_bytes multipoint_bytes box_bytes doubles double little
multipoint_laid s = rw (points_laid s.points s.z s.m)

pub parts_laid : (s : Parts)
    → shape_bytes (parted s)
    ≡ run 8 (box_doubles s.box) ++ (le_bytes 4 (length s.parts) ++ (le_bytes 4 (length (flatten s.parts)) ++ (run 4 (starts_from 0 s.parts) ++ run 8 (parts_doubles s))))
unfolding shape_bytes parts_bytes box_bytes doubles double little
parts_laid s = rw (points_laid (flatten s.parts) s.z s.m)

-- ---- lengths

pub any_right : (o : Option ℕ) → RightIf value o
any_right none = tt
any_right (some d) = tt

pub covers_right : (n : ℕ) (o : Option Measure) → Covers n o → RightIf (measured n) o
covers_right n none c = tt
covers_right n (some r) c = c

pub right_covers : (n : ℕ) (o : Option Measure) → RightIf (measured n) o → Covers n o
right_covers n none c = tt
right_covers n (some r) c = c

pub length-doubles : (k : Kind) (ps : List Point) (z m : Option Measure) → MeasuresOf k (length ps) z m
    → length (points_doubles ps z m) ≡ count (measured (length ps)) (length ps) (there z) (there m)
unfolding points_doubles
length-doubles k ps z m o = length_all (measured (length ps)) ps z m (covers_right (length ps) z o.covers_z) (covers_right (length ps) m o.covers_m)

-- a content is as long as its words say
pub length-shape : (k : Kind) (s : Shape) → OfKind k s → 4 + length (shape_bytes s) ≡ 2 * shape_words s
unfolding shape_words shape_bytes content_words front_words fixed_words point_words
length-shape k null o = refl
length-shape k (point xy z m) o =
    rw (point_laid xy z m, length_run 8 (point_doubles xy z m), length_all value (xy ∷ []) z m (any_right z) (any_right m))
    (omega (arith, point-words (there z) (there m)))
length-shape k (multipoint s) o =
    rw (multipoint_laid s)
    (simp (length-append, length_le_bytes, length_run, length-doubles k s.points s.z s.m o.measures)
    (omega (arith, several-words false (there s.z) (there s.m) 0 (length s.points) (λ e. refl))))
length-shape k (parted s) o =
    rw (parts_laid s)
    (simp (length-append, length_le_bytes, length_run, length-starts_from, length-doubles k (flatten s.parts) s.z s.m o.measures)
    (omega (arith, several-words true (there s.z) (there s.m) (length s.parts) (length (flatten s.parts)) (λ e. absurd (let z : ◌≡◌ {A = ℕ} 0 1 = cc in omega arith)))))

pub length-content : (k : Kind) (s : Shape) → OfKind k s → length (content k s) ≡ 2 * shape_words s
unfolding content
length-content k s o = rw (length-append, length-little) (length-shape k s o)

pub length_record : (k : Kind) (n : ℕ) (s : Shape) → OfKind k s → length (record_bytes k n s) ≡ 8 + 2 * shape_words s
unfolding record_bytes
length_record k n s o = rw (length-append, length_two, length-content k s o)

-- ---- the kind's field, and what is behind it

pub content-code : (k : Kind) (s : Shape) → k.code < 2 ^ 31 → le_i32 0 (content k s) ≡ pos k.code
unfolding content little
content-code k s h = i32_back k.code 0 (content k s) h (in_front (little k.code) (shape_bytes s))

pub content-behind : (k : Kind) (s : Shape) → drop 4 (content k s) ≡ shape_bytes s
unfolding content
content-behind k s = drop_at (little k.code) (shape_bytes s) 4 (length-little k.code)
