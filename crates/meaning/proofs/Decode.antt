-- The shape that a record's bytes hold, read by its kind's form; and how its length says whether m is there.
use mathlib.Core.Path.{◌≡◌, refl, sym, ◌∙◌}
use mathlib.Core.Bool.{Bool, true, false, ◌&&◌, ◌||◌, or-true}
use mathlib.Core.List.{List}
use mathlib.Core.Option.{Option}
use Prim.Native.Nat.{ℕ}
use native.Mathlib.Omega.{arith}
use lib.Dec.{eqb}
use lib.ListN.{get_or}
use borrow.Author.Tests.{eq-eqb, ne_eqb, eqb-true}
use Rattle.format.specs.declared.kinds.Kind.{Kind}
use Rattle.format.specs.Encoding.{shape_bytes, shape_words}
use Rattle.format.specs.Lengths.{Form, nothing, one_point, many_points, several_form, content_words}
use Rattle.format.specs.Lengths
use Rattle.format.specs.Shapes.{BoxXY, Measure, Multipoint, Parts, Shape, null, point, multipoint, parted, there, parts_in, points_in, OfKind, OnlyIf}
use Rattle.format.specs.WellFormed.{WellFormed}
use Rattle.format.proofs.Runs.{numbers}
use Rattle.format.proofs.Cuts.{cut}
use Rattle.format.proofs.Doubles.{value, measured, count, z_in, m_in}
use Rattle.format.proofs.Pairs.{nowhere, pairs}
use Rattle.format.proofs.Laid.{several-words}
use Rattle.format.proofs.Places.{Stands}
use Rattle.rules.specs.Rules.{Taken, little_at, double_at, words_of, parts_of, points_of, pairs_at}
use Rattle.rules.proofs.Ends.{ends_at}

-- ---- m

-- the words are those of the formula with m, which differs from the one without
abbrev pub has_m : Bool → Kind → List ℕ → Bool
has_m f k l = k.m && eqb (words_of l) (content_words (several_form f) k.z k.m (parts_of (several_form f) l) (points_of (several_form f) l))

module _ (f z : Bool) (p n w : ℕ) (none : f ≡ false → p ≡ 0) where
  abbrev words : Bool → ℕ
  words m = content_words (several_form f) z m p n

  pub m-words : (m : Bool) → (eqb w (words false) || eqb w (words m)) ≡ true → w ≡ words (m && eqb w (words m))
  m-words m e = go m (eqb w (words false)) (eqb w (words m)) refl refl e
    where
      go : (m a b : Bool) → eqb w (words false) ≡ a → eqb w (words m) ≡ b → (a || b) ≡ true → w ≡ words (m && b)
      go false true b ea eb e = eqb-true _ _ ea
      go false false b ea eb e = eqb-true _ _ (eb ∙ e)
      go true a true ea eb e = eqb-true _ _ eb
      go true true false ea eb e = eqb-true _ _ ea
      go true false false ea eb e = absurd (let z : ◌≡◌ {A = ℕ} 0 1 = cc in omega arith)

  pub m-back : (m q : Bool) → (m ≡ false → q ≡ false) → w ≡ words q → (m && eqb w (words m)) ≡ q
  m-back false q h e = sym (h refl)
  m-back true true h e = eq-eqb w (words true) e
  m-back true false h e = ne_eqb w (words true) (λ d. omega (arith, several-words f z true p n none, several-words f z false p n none))

  pub m-formula : (m q : Bool) → (m ≡ false → q ≡ false) → w ≡ words q → (eqb w (words false) || eqb w (words m)) ≡ true
  m-formula m false h e = rw (eq-eqb w (words false) e)
  m-formula false true h e = absurd (let z : ◌≡◌ {A = ℕ} 0 1 = cc (h refl) in omega arith)
  m-formula true true h e = rw (eq-eqb w (words true) e) (or-true (eqb w (words false)))

pub only_if : (m e : Bool) (o : Option Measure) → there o ≡ (m && e) → OnlyIf m o
only_if true e o h = tt
only_if false e o h = h

pub if_only : (m : Bool) (o : Option Measure) → OnlyIf m o → m ≡ false → there o ≡ false
if_only true o h e = absurd (let z : ◌≡◌ {A = ℕ} 0 1 = cc in omega arith)
if_only false o h e = h

-- ---- the shape

-- so many doubles has a point of the kind, and so many have several points
abbrev pub point_count : Kind → ℕ
point_count k = count value 1 k.z k.m

abbrev pub several_count : Bool → Kind → List ℕ → ℕ
several_count f k l = let n = points_of (several_form f) l in count (measured n) n k.z (has_m f k l)

-- which are these
abbrev pub doubles_at : Bool → Kind → List ℕ → List ℕ
doubles_at f k l = numbers 8 (several_count f k l) (pairs_at (several_form f) l) l

unfoldable pub point_from : Bool → Bool → List ℕ → Shape
point_from z m ds = point (get_or (pairs 1 ds) 0 nowhere) (z_in value 1 z ds) (m_in value 1 z m ds)

-- from the box, the number of the points, the flags and the doubles; and for parts from where they end
unfoldable pub multipoint_from : BoxXY → ℕ → Bool → Bool → List ℕ → Multipoint
multipoint_from box n z m ds = record { box = box; points = pairs n ds; z = z_in (measured n) n z ds; m = m_in (measured n) n z m ds }

unfoldable pub parts_from : BoxXY → List ℕ → ℕ → Bool → Bool → List ℕ → Parts
parts_from box ends n z m ds =
    record { box = box; parts = cut 0 ends (pairs n ds); z = z_in (measured n) n z ds; m = m_in (measured n) n z m ds }

abbrev pub box_at : List ℕ → BoxXY
box_at l = record { xmin = double_at 12 l; ymin = double_at 20 l; xmax = double_at 28 l; ymax = double_at 36 l }

abbrev pub multipoint_at : Kind → List ℕ → Multipoint
multipoint_at k l = multipoint_from (box_at l) (little_at 44 l) k.z (has_m false k l) (doubles_at false k l)

abbrev pub parts_at : Kind → List ℕ → Parts
parts_at k l = parts_from (box_at l) (ends_at (little_at 44 l) 56 (little_at 48 l) l) (little_at 48 l) k.z (has_m true k l) (doubles_at true k l)

unfoldable pub shape_at : Kind → Form → List ℕ → Shape
shape_at k nothing l = null
shape_at k one_point l = point_from k.z k.m (numbers 8 (point_count k) 12 l)
shape_at k many_points l = multipoint (multipoint_at k l)
shape_at k Lengths.parts l = parted (parts_at k l)

-- what is shown of the shape that is read from bytes that meet the rules
pub record Shaped (t : Taken) (l : List ℕ) (s : Shape) : Type 0 where
  pub of_kind : OfKind t.kind s
  pub well : WellFormed t.kind s
  pub words : words_of l ≡ shape_words s
  pub parts : parts_of t.form l ≡ parts_in s
  pub points : points_of t.form l ≡ points_in s
  pub stands : Stands 12 (shape_bytes s) l
