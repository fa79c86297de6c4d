-- Laws of the shape that tables describe: where they agree, its bytes are those of the tables, one after the other, and it has their counts.
use mathlib.Core.Path.{◌≡◌, refl, sym, ap, ◌∙◌}
use mathlib.Core.Bool.{Bool, true, false, cond, ◌&&◌, ◌||◌}
use mathlib.Core.List.{List, [], ◌∷◌, ◌++◌, map, flatten}
use mathlib.Core.Option.{some}
use Prim.Native.Nat.{ℕ, suc, ◌+◌, ◌*◌, ◌^◌, ◌≤◌, ◌<◌}
use native.Mathlib.Omega.{arith}
use lib.Dec.{eqb}
use lib.Ieee.{Float}
use lib.ListN.{length, take, drop, length-append, length-drop, length-map, take-append-drop}
use lib.Seq.{length-take-le}
use borrow.Author.Tests.{eqb-true}
use Rattle.format.specs.declared.kinds.Kind.{Kind}
use Rattle.format.specs.Encoding.{point_bytes, starts_from, shape_words}
use Rattle.format.specs.Lengths.{form_of, several_form, content_words}
use Rattle.format.specs.Numbers.{little, f64_le}
use Rattle.format.specs.Shapes.{Point, there, Covers, OnlyIf, MeasuresOf, OfKind, parts_in, points_in, sum}
use Rattle.format.proofs.Equations.{f64_le-is, point_bytes-is, starts_from-nil, starts_from-cons, parts-parted, points-parted, words-parted, parts-multipoint, points-multipoint, words-multipoint}
use Rattle.format.proofs.NumberLaws.{length-little, length-f64_le}
use Rattle.format.proofs.OrderLaws.{both_true}
use Rattle.header.specs.declared.bbox.BBoxZ.{BBoxZ}
use Rattle.layouts.specs.Steps.{starts_bytes, pairs_bytes, Agreed}
use Rattle.layouts.specs.Tables.{bits, points_of, split_by, measure_of, box_of, parts_of, multipoint_of, several_of, points_lent}

-- ---- tables that agree

-- with p for what else is asked
pub agreed : (p z m : Bool) (n : ℕ) (xs ys zs ms : List Float)
    → p && eqb (length xs) n && eqb (length ys) n && eqb (length zs) (cond z n 0) && eqb (length ms) (cond m n 0) ≡ true
    → (p ≡ true) × Agreed z m n xs ys zs ms
agreed p z m n xs ys zs ms e =
    let a = both_true _ (eqb (length ms) (cond m n 0)) e in
    let b = both_true _ (eqb (length zs) (cond z n 0)) a.0 in
    let c = both_true _ (eqb (length ys) n) b.0 in
    let d = both_true p (eqb (length xs) n) c.0 in
    (d.0, record { xs_has = eqb-true _ _ d.1; ys_has = eqb-true _ _ c.1; zs_has = eqb-true _ _ b.1; ms_has = eqb-true _ _ a.1 })

-- ---- points

pub length-points : (xs ys : List Float) (n : ℕ) → length xs ≡ n → length ys ≡ n → length (points_of xs ys) ≡ n
length-points [] ys n e f = e
length-points (x ∷ xs) [] n e f = absurd (omega arith)
length-points (x ∷ xs) (y ∷ ys) n e f = ap suc (length-points xs ys (length xs) refl (omega arith)) ∙ e

-- their x are the lent x, and their y the lent y
pub xs_are : (xs ys : List Float) → length ys ≡ length xs → map (λ (p : Point). p.x) (points_of xs ys) ≡ map bits xs
xs_are [] ys e = refl
xs_are (x ∷ xs) [] e = absurd (omega arith)
xs_are (x ∷ xs) (y ∷ ys) e = ap (◌∷◌ (bits x)) (xs_are xs ys (omega arith))

pub ys_are : (xs ys : List Float) → length ys ≡ length xs → map (λ (p : Point). p.y) (points_of xs ys) ≡ map bits ys
ys_are [] [] e = refl
ys_are [] (y ∷ ys) e = absurd (omega arith)
ys_are (x ∷ xs) [] e = absurd (omega arith)
ys_are (x ∷ xs) (y ∷ ys) e = ap (◌∷◌ (bits y)) (ys_are xs ys (omega arith))

-- the bytes of one, and how many bytes they have
pub pair_is : (x y : Float) → point_bytes (record { x = bits x; y = bits y }) ≡ f64_le x ++ f64_le y
pair_is x y = rw (point_bytes-is, f64_le-is x, f64_le-is y)

pub length_pairs : (xs ys : List Float) → length ys ≡ length xs → length (pairs_bytes xs ys) ≡ 16 * length xs
unfolding flatten
length_pairs [] ys e = refl
length_pairs (x ∷ xs) [] e = absurd (omega arith)
length_pairs (x ∷ xs) (y ∷ ys) e =
    rw pair_is (simp (length-append, length-f64_le) (omega (arith, length_pairs xs ys (omega arith))))

-- ---- parts

rest_sum : (n s : ℕ) (ps : List Point) → n + s ≡ length ps → s ≡ length (drop n ps)
rest_sum n s ps e = rw length-drop (omega arith)

pub split_length : (counts : List ℕ) (ps : List Point) → length (split_by counts ps) ≡ length counts
unfolding split_by
split_length [] ps = refl
split_length (n ∷ ns) ps = ap suc (split_length ns (drop n ps))

pub split_whole : (counts : List ℕ) (ps : List Point) → sum counts ≡ length ps → flatten (split_by counts ps) ≡ ps
unfolding split_by flatten
split_whole [] [] e = refl
split_whole [] (p ∷ ps) e = absurd (omega arith)
split_whole (n ∷ ns) ps e =
    ap (λ (l : List Point). take n ps ++ l) (split_whole ns (drop n ps) (rest_sum n (sum ns) ps e)) ∙ take-append-drop n ps

pub split_starts : (counts : List ℕ) (ps : List Point) (a : ℕ) → sum counts ≡ length ps → flatten (map little (starts_from a (split_by counts ps))) ≡ starts_bytes a counts
unfolding split_by starts_bytes flatten
split_starts [] ps a e = rw starts_from-nil
split_starts (n ∷ ns) ps a e =
    let k : n ≤ length ps = omega arith in
    rw (starts_from-cons, length-take-le n ps k) (ap (λ (l : List ℕ). little a ++ l) (split_starts ns (drop n ps) (a + n) (rest_sum n (sum ns) ps e)))

pub split_counts : (counts : List ℕ) (ps : List Point) → sum counts ≡ length ps → map length (split_by counts ps) ≡ counts
unfolding split_by
split_counts [] ps e = refl
split_counts (n ∷ ns) ps e =
    let k : n ≤ length ps = omega arith in
    rw (length-take-le n ps k) (ap (◌∷◌ n) (split_counts ns (drop n ps) (rest_sum n (sum ns) ps e)))

-- ---- the whole shape

pub parts_are : (z m : Bool) (b : BBoxZ) (counts : List ℕ) (xs ys zs ms : List Float)
    → parts_of z m b counts xs ys zs ms
    ≡ record {
      box = box_of b;
      parts = split_by counts (points_of xs ys);
      z = measure_of z b.zmin b.zmax zs;
      m = measure_of m b.mmin b.mmax ms;
    }
unfolding parts_of
parts_are z m b counts xs ys zs ms = refl

pub multipoint_are : (z m : Bool) (b : BBoxZ) (xs ys zs ms : List Float)
    → multipoint_of z m b xs ys zs ms
    ≡ record {
      box = box_of b;
      points = points_of xs ys;
      z = measure_of z b.zmin b.zmax zs;
      m = measure_of m b.mmin b.mmax ms;
    }
unfolding multipoint_of
multipoint_are z m b xs ys zs ms = refl

pub there_measure : (flag : Bool) (low high : Float) (vs : List Float) → there (measure_of flag low high vs) ≡ flag
there_measure true low high vs = refl
there_measure false low high vs = refl

all-points : (counts : List ℕ) (xs ys : List Float) → length xs ≡ sum counts → length ys ≡ sum counts → length (flatten (split_by counts (points_of xs ys))) ≡ sum counts
all-points counts xs ys e f =
    let n = sym (length-points xs ys (sum counts) e f) in
    rw (split_whole counts (points_of xs ys) n, n)

-- a multipoint has no part counts
pub no_counts : (parts : Bool) (p : ℕ) → (parts || eqb p 0) ≡ true → parts ≡ false → p ≡ 0
no_counts true p h e = absurd (let z : ◌≡◌ {A = ℕ} 0 1 = cc in omega arith)
no_counts false p h e = eqb-true p 0 h

-- and with parts the counts sum to the points
pub sum-held : (parts : Bool) (counts : List ℕ) (xs : List Float) → points_lent parts counts xs < 2 ^ 31 → parts ≡ true → sum counts < 2 ^ 31
sum-held true counts xs h e = h
sum-held false counts xs h e = absurd (let z : ◌≡◌ {A = ℕ} 0 1 = cc in omega arith)

-- its counts and its words
module _ (z m : Bool) (b : BBoxZ) (counts : List ℕ) (xs ys zs ms : List Float) where
  pub parts-in : (parts : Bool) → (parts || eqb (length counts) 0) ≡ true → parts_in (several_of parts z m b counts xs ys zs ms) ≡ length counts
  unfolding parts_of
  parts-in true h = rw (parts-parted, split_length counts (points_of xs ys))
  parts-in false h = parts-multipoint (multipoint_of z m b xs ys zs ms) ∙ sym (no_counts false (length counts) h refl)

  pub points-in : (parts : Bool) → Agreed z m (points_lent parts counts xs) xs ys zs ms → points_in (several_of parts z m b counts xs ys zs ms) ≡ points_lent parts counts xs
  unfolding parts_of multipoint_of
  points-in true a = rw (points-parted, all-points counts xs ys a.xs_has a.ys_has)
  points-in false a = rw (points-multipoint, length-points xs ys _ a.xs_has a.ys_has)

  pub words_in : (parts : Bool) → (parts || eqb (length counts) 0) ≡ true → Agreed z m (points_lent parts counts xs) xs ys zs ms
      → shape_words (several_of parts z m b counts xs ys zs ms) ≡ content_words (several_form parts) z m (length counts) (points_lent parts counts xs)
  unfolding parts_of multipoint_of
  words_in true h a =
      rw (words-parted, there_measure z b.zmin b.zmax zs, there_measure m b.mmin b.mmax ms, split_length counts (points_of xs ys), all-points counts xs ys a.xs_has a.ys_has)
  words_in false h a =
      rw (words-multipoint, there_measure z b.zmin b.zmax zs, there_measure m b.mmin b.mmax ms, length-points xs ys _ a.xs_has a.ys_has, no_counts false (length counts) h refl)

-- it is of the kind whose flags the layout has

module _ (low high : Float) (vs : List Float) where
  only_if : (flag : Bool) → OnlyIf flag (measure_of flag low high vs)
  only_if true = tt
  only_if false = refl

  covers : (n : ℕ) (flag : Bool) → length vs ≡ cond flag n 0 → Covers n (measure_of flag low high vs)
  covers n true e = length-map vs bits ∙ e
  covers n false e = tt

module _ (k : Kind) (b : BBoxZ) (counts : List ℕ) (xs ys zs ms : List Float) where
  -- of n points, as the shape counts them
  measures_of : (n l : ℕ) → l ≡ n → Agreed k.z k.m n xs ys zs ms → MeasuresOf k l (measure_of k.z b.zmin b.zmax zs) (measure_of k.m b.mmin b.mmax ms)
  measures_of n l e a =
      rw e
      (record {
        has_z = there_measure k.z b.zmin b.zmax zs;
        may_have_m = only_if b.mmin b.mmax ms k.m;
        covers_z = covers b.zmin b.zmax zs n k.z a.zs_has;
        covers_m = covers b.mmin b.mmax ms n k.m a.ms_has;
      })

  pub several_of_kind : (parts : Bool) → form_of k ≡ some (several_form parts) → Agreed k.z k.m (points_lent parts counts xs) xs ys zs ms
      → OfKind k (several_of parts k.z k.m b counts xs ys zs ms)
  unfolding parts_of multipoint_of
  several_of_kind true f a = record { form = f; measures = measures_of (sum counts) _ (all-points counts xs ys a.xs_has a.ys_has) a }
  several_of_kind false f a = record { form = f; measures = measures_of (length xs) _ (length-points xs ys _ a.xs_has a.ys_has) a }

pub length_starts : (counts : List ℕ) (a : ℕ) → length (starts_bytes a counts) ≡ 4 * length counts
unfolding starts_bytes
length_starts [] a = refl
length_starts (n ∷ ns) a = length-append (little a) (starts_bytes (a + n) ns) ∙ omega (arith, length-little a, length_starts ns (a + n))
