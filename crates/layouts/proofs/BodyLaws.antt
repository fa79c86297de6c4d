-- Laws of a body's bytes: they are the tables' fields in turn, storing the fields in turn stores them, and how many bytes they are.
use mathlib.Core.Path.{◌≡◌, refl, sym, ap, ◌∙◌}
use mathlib.Core.Bool.{Bool, true, false, cond}
use mathlib.Core.List.{List, [], ◌∷◌, ◌++◌, append_assoc}
use Prim.Native.Nat.{ℕ, ◌+◌, ◌*◌, ◌≤◌}
use native.Mathlib.Omega.{arith}
use lib.Ieee.{Float}
use lib.ListN.{length, length-append}
use lib.Seq.{sets}
use Rattle.format.specs.Bytes.{le_bytes}
use Rattle.format.specs.Encoding.{measure_bytes, shape_bytes}
use Rattle.format.specs.Lengths.{several_form, front_words}
use Rattle.format.specs.Numbers.{little, f64s_le}
use Rattle.format.specs.Shapes.{sum}
use Rattle.format.proofs.Equations.{little-is, box_bytes-is, points_bytes-is, multipoint_bytes-is, parts_bytes-is, shape-multipoint, shape-parted, front_many, front-parts}
use Rattle.format.proofs.Laid.{measure_doubles, several-words}
use Rattle.format.proofs.LayoutLaws.{onto}
use Rattle.format.proofs.NumberLaws.{length-little, length-f64s_le, f64s_le-append, doubles-bits}
use Rattle.header.specs.declared.bbox.BBoxZ.{BBoxZ}
use Rattle.layouts.specs.Answers.{body_size}
use Rattle.layouts.specs.Steps.{measure_size, starts_bytes, corners, counts_bytes, front_bytes, front_size, pairs_bytes, Agreed, Placed}
use Rattle.layouts.specs.Tables.{points_of, measure_of, parts_of, multipoint_of, several_of, points_lent}
use Rattle.layouts.proofs.TableLaws.{length-points, length_pairs, split_length, split_whole, split_starts, length_starts, no_counts}

-- ---- box, counts and starts

module _ (counts : List ℕ) (n : ℕ) where
  pub counts-stored : (parts : Bool) → parts ≡ true → (out l1 l2 l3 : List ℕ) → l1 ≡ sets out 32 (le_bytes 4 (length counts)) → l2 ≡ sets l1 36 (le_bytes 4 n) → l3 ≡ sets l2 40 (starts_bytes 0 counts) → l3 ≡ sets out 32 (counts_bytes parts counts n)
  unfolding counts_bytes
  counts-stored parts f out l1 l2 l3 e1 e2 e3 =
      let p = little (length counts) in
      let s2 = onto out l1 l2 p (little n) 32 36 (simp length-little) (rw little-is e1) (rw little-is e2) in
      let s3 = onto out l2 l3 (p ++ little n) (starts_bytes 0 counts) 32 40 (simp (length-append, length-little)) s2 e3 in
      rw f (s3 ∙ ap (sets out 32) (append_assoc p (little n) (starts_bytes 0 counts)))

  pub number-stored : (parts : Bool) → parts ≡ false → (out l : List ℕ) → l ≡ sets out 32 (le_bytes 4 n) → l ≡ sets out 32 (counts_bytes parts counts n)
  unfolding counts_bytes
  number-stored parts f out l e = rw (f, little-is) e

  length-counts : (parts : Bool) → 32 + length (counts_bytes parts counts n) ≡ front_size parts (length counts)
  unfolding counts_bytes
  length-counts true = simp (length-append, length-little, length_starts) (omega arith)
  length-counts false = simp length-little

  module _ (parts : Bool) (b : BBoxZ) where
    length_front : length (front_bytes parts b counts n) ≡ front_size parts (length counts)
    unfolding front_bytes
    length_front = length-append (f64s_le (corners b)) (counts_bytes parts counts n) ∙ omega (arith, length-f64s_le (corners b), length-counts parts)

    pub front-stored : (out l1 l2 : List ℕ) → l1 ≡ sets out 0 (f64s_le (corners b)) → l2 ≡ sets l1 32 (counts_bytes parts counts n) → l2 ≡ sets out 0 (front_bytes parts b counts n)
    unfolding front_bytes
    front-stored out l1 l2 e1 e2 = onto out l1 l2 (f64s_le (corners b)) (counts_bytes parts counts n) 0 32 (simp length-f64s_le) e1 e2

-- ---- a range and its values

abbrev run : Bool → Float → Float → List Float → List ℕ
run flag low high values = measure_bytes (measure_of flag low high values)

module _ (low high : Float) (values : List Float) where
  measure_is : run true low high values ≡ f64s_le (low ∷ high ∷ []) ++ f64s_le values
  measure_is = measure_doubles _ ∙ (doubles-bits (low ∷ high ∷ values) ∙ f64s_le-append (low ∷ high ∷ []) values)

  pub measure_stored : (out l1 l2 : List ℕ) (at : ℕ) → l1 ≡ sets out at (f64s_le (low ∷ high ∷ [])) → l2 ≡ sets l1 (at + 16) (f64s_le values) → l2 ≡ sets out at (run true low high values)
  measure_stored out l1 l2 at e1 e2 =
      onto out l1 l2 (f64s_le (low ∷ high ∷ [])) (f64s_le values) at (at + 16) (simp length-f64s_le) e1 e2 ∙ ap (sets out at) (sym measure_is)

  length_measure : (flag : Bool) (n : ℕ) → length values ≡ cond flag n 0 → length (run flag low high values) ≡ measure_size flag n
  length_measure true n e = ap length measure_is ∙ simp (length-append, length-f64s_le) (omega arith)
  length_measure false n e = refl

-- ---- how many bytes

-- the words in front, without the kind's field
front-words : (parts : Bool) (p : ℕ) → 4 + front_size parts p ≡ 2 * front_words (several_form parts) p
front-words true p = omega (arith, front-parts p)
front-words false p = omega (arith, front_many p)

pub size_is : (parts z m : Bool) (p n : ℕ) → (parts ≡ false → p ≡ 0) → front_size parts p + 16 * n + measure_size z n + measure_size m n ≡ body_size parts z m p n
unfolding body_size
size_is parts true true p n h = omega (arith, front-words parts p, several-words parts true true p n h)
size_is parts true false p n h = omega (arith, front-words parts p, several-words parts true false p n h)
size_is parts false true p n h = omega (arith, front-words parts p, several-words parts false true p n h)
size_is parts false false p n h = omega (arith, front-words parts p, several-words parts false false p n h)

-- there is room for a table that holds what the layout has
pub measure_fits : (flag : Bool) (values : List Float) (n at room : ℕ) → length values ≡ cond flag n 0 → at + measure_size flag n ≤ room → at + measure_size flag (length values) ≤ room
measure_fits true values n at room e h = omega arith
measure_fits false values n at room e h = h

-- where the fields end, once all is judged
pub room_for : (parts z m : Bool) (counts : List ℕ) (xs ys zs ms : List Float) (room : ℕ) → Placed parts z m counts xs ys zs ms room
    → front_size parts (length counts) + 16 * length xs + measure_size z (length xs) + measure_size m (length xs) ≤ room
room_for parts z m counts xs ys zs ms room p =
    rw (size_is _ _ _ (length counts) (length xs) (no_counts parts (length counts) p.counts_fit), p.agreed.xs_has) p.fits

-- ---- the whole body

module _ (z m : Bool) (b : BBoxZ) (counts : List ℕ) (xs ys zs ms : List Float) where
  abbrev z_run : List ℕ
  z_run = run z b.zmin b.zmax zs

  abbrev m_run : List ℕ
  m_run = run m b.mmin b.mmax ms

  body_is : (parts : Bool) → Agreed z m (points_lent parts counts xs) xs ys zs ms
      → shape_bytes (several_of parts z m b counts xs ys zs ms) ≡ front_bytes parts b counts (points_lent parts counts xs) ++ (pairs_bytes xs ys ++ (z_run ++ m_run))
  unfolding parts_of multipoint_of front_bytes counts_bytes
  body_is true h =
      let n = sym (length-points xs ys (sum counts) h.xs_has h.ys_has) in
      rw (
        shape-parted,
        parts_bytes-is,
        box_bytes-is,
        doubles-bits (corners b),
        split_length counts (points_of xs ys),
        split_whole counts (points_of xs ys) n,
        split_starts counts (points_of xs ys) 0 n,
        ← n,
        points_bytes-is,
      )
      (simp append_assoc)
  body_is false h =
      rw (shape-multipoint, multipoint_bytes-is, box_bytes-is, doubles-bits (corners b), length-points xs ys _ h.xs_has h.ys_has, points_bytes-is) (simp append_assoc)

  module _ (parts : Bool) (h : Agreed z m (points_lent parts counts xs) xs ys zs ms) where
    abbrev n : ℕ
    n = points_lent parts counts xs

    abbrev start : ℕ
    start = front_size parts (length counts)

    pairs-length : length (pairs_bytes xs ys) ≡ 16 * n
    pairs-length = length_pairs xs ys (h.ys_has ∙ sym h.xs_has) ∙ ap (◌*◌ 16) h.xs_has

    z-length : length z_run ≡ measure_size z n
    z-length = length_measure b.zmin b.zmax zs z n h.zs_has

    stored : (out l1 l2 l3 l4 : List ℕ) → l1 ≡ sets out 0 (front_bytes parts b counts n) → l2 ≡ sets l1 start (pairs_bytes xs ys) → l3 ≡ sets l2 (start + 16 * n) z_run → l4 ≡ sets l3 (start + 16 * n + measure_size z n) m_run → l4 ≡ sets out 0 (shape_bytes (several_of parts z m b counts xs ys zs ms))
    stored out l1 l2 l3 l4 e1 e2 e3 e4 =
        let f = front_bytes parts b counts n in
        let f-length = length_front counts n parts b in
        let s2 = onto out l1 l2 f (pairs_bytes xs ys) 0 _ (omega (arith, f-length)) e1 e2 in
        let s3 = onto out l2 l3 (f ++ pairs_bytes xs ys) z_run 0 _ (simp (length-append, f-length, pairs-length) (omega arith)) s2 e3 in
        let s4 = onto out l3 l4 (f ++ pairs_bytes xs ys ++ z_run) m_run 0 _ (simp (length-append, f-length, pairs-length, z-length) (omega arith)) s3 e4 in
        let e : f ++ pairs_bytes xs ys ++ z_run ++ m_run ≡ f ++ (pairs_bytes xs ys ++ (z_run ++ m_run)) = simp append_assoc in
        s4 ∙ ap (sets out 0) (e ∙ sym (body_is parts h))

    -- by where the points start, how many they are and the bytes of z, as the code has them
    pub body-stored : (at i w : ℕ) → at ≡ start → i ≡ n → w ≡ measure_size z i → (out l1 l2 l3 l4 : List ℕ) → l1 ≡ sets out 0 (front_bytes parts b counts i) → l2 ≡ sets l1 at (pairs_bytes xs ys) → l3 ≡ sets l2 (at + 16 * i) z_run → l4 ≡ sets l3 (at + 16 * i + w) m_run → l4 ≡ sets out 0 (shape_bytes (several_of parts z m b counts xs ys zs ms))
    body-stored at i w p q r = rw (p, r, q) stored
