-- A body's refusals that name a place lie within its bytes: a test that names one is reached only where the bytes go so far.
use mathlib.Core.Path.{◌≡◌, refl}
use mathlib.Core.Bool.{Bool, true, false}
use mathlib.Core.List.{List, [], ◌∷◌, ◌++◌, map}
use Prim.Native.Nat.{ℕ, ◌+◌, ◌*◌, ◌≤◌, ◌<◌, zero-le}
use native.Mathlib.Omega.{arith}
use lib.Dec.{lit<}
use lib.IntN.{ℤ}
use lib.ListN.{length, drop}
use lib.Signed.{non_neg}
use borrow.Author.Tests.{le-leb, lt-leb, lt-ltb, le-ltb}
use Rattle.format.specs.Numbers.{le_i32}
use Rattle.format.specs.Order.{first, fields_from}
use Rattle.format.specs.Said.{Said, gives, short}
use Rattle.format.specs.Shapes.{sum}
use Rattle.format.proofs.OrderLaws.{first-append}
use Rattle.format.proofs.Placed.{Placed, elsewhere, size_placed, test_placed, field_placed, fields_placed, offset, offset_within}
use Rattle.multipart.specs.declared.Body.{Body}
use Rattle.multipart.specs.declared.Counts.{Counts}
use Rattle.multipart.specs.Answers.{counts_of}
use Rattle.multipart.specs.Body.{parts_in, number_at, differences_in, counts_in, points_in, pairs_at, z_at, m_at, body_width, body_in, count_tests, part_tests, measure_tests, pair_tests, rest_tests, has_room, room_tests, body_of}
use Rattle.multipart.specs.Parts.{is_count, count_of}
use Rattle.multipart.specs.Walks.{end_after}
use Rattle.multipart.proofs.CountLaws.{number_from}
use Rattle.multipart.proofs.PartLaws.{length-differences_from}

-- ---- how wide the fields are

module _ (parts : Bool) (s : List ℕ) where
  abbrev W : ℕ → ℕ
  W = body_width parts s

  box_wide : (p : ℕ) → p < 32 → W p ≡ 8
  box_wide p h = rw (lt-leb 32 p h)

  pairs_from : number_at parts + 4 ≤ pairs_at parts s
  unfolding pairs_at
  pairs_from = omega arith

  number_wide : (p : ℕ) → 32 ≤ p → p < pairs_at parts s → W p ≡ 4
  number_wide p h k = rw (le-leb 32 p h, lt-ltb p (pairs_at parts s) k)

  double_wide : (p : ℕ) → pairs_at parts s ≤ p → W p ≡ 8
  double_wide p h = rw (le-leb 32 p (omega (arith, pairs_from, number_from parts)), le-ltb p (pairs_at parts s) h)

  -- ---- each kind of test, before an answer a

  module _ {A : Type 0} where
    -- doubles behind the starts
    doubles_placed : (n at : ℕ) → pairs_at parts s ≤ at → at ≤ length s → (a : Said A) → (at + 8 * n ≤ length s → Placed W s a) → Placed W s (first (fields_from 8 n at s short) a)
    doubles_placed n at g h a k = fields_placed W s 8 n at (lit< tt) h (λ p i j. double_wide p (omega arith)) a k

    parts_placed : (ds : List ℤ) (start at : ℕ) → start + 4 * length ds ≤ length s → pairs_at parts s ≤ at → at ≤ length s → (a : Said A) → (at + 16 * sum (map count_of ds) ≤ length s → Placed W s a) → Placed W s (first (part_tests start at ds s) a)
    unfolding part_tests
    parts_placed [] start at f g h a k = k (omega arith)
    parts_placed (d ∷ ds) start at f g h a k =
        let later = part_tests (start + 4) (at + 16 * count_of d) ds s in
        test_placed W s (is_count d) (first (fields_from 8 (2 * count_of d) at s short ++ later) a) _ (size_placed W s start (omega arith))
        (λ e.
        rw (first-append (fields_from 8 (2 * count_of d) at s short) later a)
        (doubles_placed (2 * count_of d) at g h (first later a)
        (λ q. parts_placed ds (start + 4) (at + 16 * count_of d) (omega arith) (omega arith) (omega arith) a (λ r. k (omega arith)))))

    measure_placed : (flag : Bool) (n at : ℕ) → pairs_at parts s ≤ at → at ≤ length s → (a : Said A) → (end_after flag n at ≤ length s → Placed W s a) → Placed W s (first (measure_tests flag n at s) a)
    measure_placed true n at g h a k = doubles_placed (2 + n) at g h a (λ q. k (omega arith))
    measure_placed false n at g h a k = k (omega arith)

-- ---- the counts

module _ {A : Type 0} where
  -- behind the first number
  numbers_before : (parts : Bool) (s : List ℕ) (a : Said A) → 36 ≤ length s → (number_at parts + 4 ≤ length s → Placed (body_width parts s) s a) → Placed (body_width parts s) s (first (drop 5 (count_tests parts s)) a)
  numbers_before true s a p k =
      let W : ℕ → ℕ = body_width true s in
      field_placed W s 4 36 p (number_wide true s 36 (omega arith) (omega (arith, pairs_from true s))) _
      (λ q.
      test_placed W s (non_neg (le_i32 32 s)) _ _ (size_placed W s 32 (omega arith)) (λ i. test_placed W s (non_neg (le_i32 36 s)) a _ (size_placed W s 36 p) (λ j. k q)))
  numbers_before false s a p k =
      let W : ℕ → ℕ = body_width false s in
      test_placed W s (non_neg (le_i32 32 s)) a _ (size_placed W s 32 (omega arith)) (λ i. k p)

  counts_before : (parts : Bool) (s : List ℕ) (a : Said A) → (number_at parts + 4 ≤ length s → Placed (body_width parts s) s a) → Placed (body_width parts s) s (first (count_tests parts s) a)
  counts_before parts s a k =
      let W : ℕ → ℕ = body_width parts s in
      fields_placed W s 8 4 0 (lit< tt) zero-le (λ p i j. box_wide parts s p j) _
      (λ h.
      field_placed W s 4 32 h (number_wide parts s 32 (lit< tt) (omega (arith, pairs_from parts s, number_from parts))) _
      (λ p. numbers_before parts s a p k))

pub counts_placed : (parts : Bool) (s : List ℕ) → Placed (body_width parts s) s (counts_of parts s)
unfolding counts_of
counts_placed parts s = counts_before parts s _ (λ h. tt)

-- ---- the body

pairs_placed : (parts : Bool) (s : List ℕ) (a : Said Body) → number_at parts + 4 ≤ length s → (z_at parts s ≤ length s → Placed (body_width parts s) s a) → Placed (body_width parts s) s (first (pair_tests parts s) a)
unfolding pairs_at z_at points_in counts_in
pairs_placed true s a h k =
    let W : ℕ → ℕ = body_width true s in
    let ds : List ℤ = differences_in true s in
    let d : length ds ≡ parts_in true s = length-differences_from _ _ _ _ in
    rw (first-append (fields_from 4 (parts_in true s) 40 s short) (part_tests 40 (pairs_at true s) ds s) a)
    (fields_placed W s 4 (parts_in true s) 40 (lit< tt) h (λ p i j. number_wide true s p (omega arith) j) _
    (λ p. parts_placed true s ds 40 (pairs_at true s) (rw d p) (omega arith) p a k))
pairs_placed false s a h k = doubles_placed false s (2 * points_in false s) (pairs_at false s) (omega arith) h a (λ q. k (omega arith))

module _ (parts z m : Bool) (s : List ℕ) (a : Said Body) (k : Placed (body_width parts s) s a) where
  abbrev m_tests : List (Bool × Said Body)
  m_tests = measure_tests m (points_in parts s) (m_at parts z s) s

  abbrev z_tests : List (Bool × Said Body)
  z_tests = measure_tests z (points_in parts s) (z_at parts s) s

  after-z : end_after z (points_in parts s) (z_at parts s) ≤ length s → Placed (body_width parts s) s (first m_tests a)
  unfolding m_at z_at
  after-z q = measure_placed parts s m (points_in parts s) (m_at parts z s) (omega arith) q a (λ r. k)

  after-pairs : z_at parts s ≤ length s → Placed (body_width parts s) s (first z_tests (first m_tests a))
  unfolding z_at
  after-pairs q = measure_placed parts s z (points_in parts s) (z_at parts s) (omega arith) q _ after-z

  rest_placed : number_at parts + 4 ≤ length s → Placed (body_width parts s) s (first (rest_tests parts z m s) a)
  rest_placed h = rw (first-append (pair_tests parts s) (z_tests ++ m_tests) a, first-append z_tests m_tests a) (pairs_placed parts s _ h after-pairs)

pub body_placed : (parts z m : Bool) (s : List ℕ) (counts xs ys zs ms : ℕ) → Placed (body_width parts s) s (body_of parts z m s counts xs ys zs ms)
unfolding body_of
body_placed parts z m s counts xs ys zs ms =
    let W : ℕ → ℕ = body_width parts s in
    let body : Said Body = gives (body_in parts z m s) in
    let last = room_tests parts z m s counts xs ys zs ms in
    let n : Placed W s (first last body) = test_placed W s (has_room z m (parts_in parts s) (points_in parts s) counts xs ys zs ms) body _ (elsewhere W s 6 _ refl) (λ i. tt) in
    rw (first-append (count_tests parts s) (rest_tests parts z m s ++ last) body, first-append (rest_tests parts z m s) last body)
    (counts_before parts s (first (rest_tests parts z m s) (first last body)) (λ h. rest_placed parts z m s (first last body) n h))

-- ---- the offset of what is said, which a caller may move

pub counts-offset : (parts : Bool) (s : List ℕ) (r : Said Counts) → r ≡ counts_of parts s → offset r ≤ length s
counts-offset parts s r e = offset_within (body_width parts s) s r (rw e (counts_placed parts s))

pub body-offset : (parts z m : Bool) (s : List ℕ) (counts xs ys zs ms : ℕ) (r : Said Body) → r ≡ body_of parts z m s counts xs ys zs ms → offset r ≤ length s
body-offset parts z m s counts xs ys zs ms r e = offset_within (body_width parts s) s r (rw e (body_placed parts z m s counts xs ys zs ms))
