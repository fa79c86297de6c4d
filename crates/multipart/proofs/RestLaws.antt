-- Laws of what follows the counts: the pairs, z and m in turn, where one of them is refused and where all pass.
use mathlib.Core.Path.{◌≡◌, ◌∙◌}
use mathlib.Core.Bool.{Bool, true, false}
use mathlib.Core.List.{List, ◌++◌}
use Prim.Native.Nat.{ℕ, ◌+◌, ◌*◌, ◌≤◌}
use native.Mathlib.Omega.{arith}
use lib.Dec.{lit<}
use lib.IntN.{ℤ, nat_abs}
use lib.ListN.{length}
use Rattle.std.specs.Prelude.{Result, Ok, Err}
use Rattle.format.specs.declared.shapes.Short.{Short}
use Rattle.format.specs.Numbers.{le_i32}
use Rattle.format.specs.Order.{first, fields_from}
use Rattle.format.specs.Said.{Said, short}
use Rattle.format.proofs.OrderLaws.{fields_whole, first-append}
use Rattle.multipart.specs.declared.Body.{Body}
use Rattle.multipart.specs.declared.CountsError.{CountsError}
use Rattle.multipart.specs.declared.CountsError.TheVariants as CountsErrorIs
use Rattle.multipart.specs.Body.{parts_in, number_at, differences_in, counts_in, points_in, pairs_at, z_at, m_at, part_tests, measure_tests, pair_tests, rest_tests}
use Rattle.fields.specs.Checked.{FieldsEnd}
use Rattle.multipart.specs.Walks.{Passes, Refuses, PartsWalk, end_after, MeasureWalk, PairsWalk}
use Rattle.multipart.proofs.TestLaws.{fields_pass, fields_stop}

-- ---- one list of tests after another

module _ (ts us : List (Bool × Said Body)) where
  sooner : (r : Said Body) → Refuses ts r → Refuses (ts ++ us) r
  sooner r h a = first-append ts us a ∙ h (first us a)

  later : (r : Said Body) → Passes ts → Refuses us r → Refuses (ts ++ us) r
  later r p h a = first-append ts us a ∙ (p (first us a) ∙ h a)

  both_pass : Passes ts → Passes us → Passes (ts ++ us)
  both_pass p q a = first-append ts us a ∙ (p (first us a) ∙ q a)

-- ---- in turn

module _ (parts z m : Bool) (s : List ℕ) where
  abbrev z_tests : List (Bool × Said Body)
  z_tests = measure_tests z (points_in parts s) (z_at parts s) s

  abbrev m_tests : List (Bool × Said Body)
  m_tests = measure_tests m (points_in parts s) (m_at parts z s) s

  pub pairs_stop : (r : Said Body) → Refuses (pair_tests parts s) r → Refuses (rest_tests parts z m s) r
  pairs_stop r e = sooner (pair_tests parts s) (z_tests ++ m_tests) r e

  -- the pairs pass
  module _ (p : Passes (pair_tests parts s)) where
    pub z_stop : (r : Said Body) → Refuses z_tests r → Refuses (rest_tests parts z m s) r
    z_stop r e = later (pair_tests parts s) (z_tests ++ m_tests) r p (sooner z_tests m_tests r e)

    -- and z
    module _ (q : Passes z_tests) where
      pub m_stop : (r : Said Body) → Refuses m_tests r → Refuses (rest_tests parts z m s) r
      m_stop r e = later (pair_tests parts s) (z_tests ++ m_tests) r p (later z_tests m_tests r q e)

      pub rest_pass : Passes m_tests → Passes (rest_tests parts z m s)
      rest_pass e = both_pass (pair_tests parts s) (z_tests ++ m_tests) p (both_pass z_tests m_tests q e)

-- ---- the pairs of p parts, behind their starts

module _ (s : List ℕ) (p : ℕ) (h : 40 ≤ length s) (parts_are : p ≡ parts_in true s) where
  abbrev start_tests : List (Bool × Said Body)
  start_tests = fields_from 4 (parts_in true s) 40 s short

  abbrev parts_tests : List (Bool × Said Body)
  parts_tests = part_tests 40 (pairs_at true s) (differences_in true s) s

  pub starts_cut : (e : Short) → FieldsEnd 4 p 40 (length s) (Err e) → PairsWalk true s (Err (CountsErrorIs.Short e))
  starts_cut e k = sooner start_tests parts_tests _ (λ a. fields_stop 4 (lit< tt) (parts_in true s) 40 s a e h (rw (← parts_are) k))

  -- all starts are there
  module _ (end : ℕ) (k : FieldsEnd 4 p 40 (length s) (Ok end)) where
    starts_pass : Passes start_tests
    starts_pass a = fields_pass 4 (lit< tt) (parts_in true s) 40 s a end (rw (← parts_are) k)

    found : (r : Result ℕ CountsError) → PartsWalk (parts_in true s) (le_i32 36 s) s r → PairsWalk true s r
    unfolding pairs_at z_at points_in counts_in
    found (Ok points) w = (both_pass start_tests parts_tests starts_pass w.0, (w.1.0, rw (← w.1.0) w.1.1))
    found (Err e) w = later start_tests parts_tests _ starts_pass w

    pub parts_found : (n : ℤ) (r : Result ℕ CountsError) → n ≡ le_i32 36 s → PartsWalk p n s r → PairsWalk true s r
    parts_found n r f w = found r (rw (parts_are, f) at w)

-- ---- the n pairs of a multipoint

module _ (s : List ℕ) (n : ℕ) (points_are : n ≡ nat_abs (le_i32 32 s)) where
  pub points_cut : 36 ≤ length s → (e : Short) → FieldsEnd 8 (2 * n) 36 (length s) (Err e) → PairsWalk false s (Err (CountsErrorIs.Short e))
  unfolding pairs_at points_in
  points_cut h e k a = fields_stop 8 (lit< tt) (2 * points_in false s) 36 s a e h (rw (← points_are) k)

  pub points_found : 36 + 16 * n ≤ length s → PairsWalk false s (Ok n)
  unfolding z_at pairs_at points_in
  points_found h = ((λ a. fields_whole 8 (lit< tt) (2 * points_in false s) 36 s short a (omega arith)), (points_are, omega arith))

-- ---- the places, in the definition's own terms

module _ (parts : Bool) (s : List ℕ) (points : ℕ) (points_are : points ≡ points_in parts s) where
  pub z-place : (p : ℕ) → p ≡ parts_in parts s → number_at parts + 4 + 4 * p + 16 * points ≡ z_at parts s
  unfolding z_at pairs_at
  z-place p e = rw (e, points_are)

  pub m-place : (z : Bool) (end : ℕ) → end ≡ z_at parts s → end_after z points end ≡ m_at parts z s
  unfolding m_at
  m-place z end e = rw (e, points_are)

-- the walk over z, and over m
pub measure_found : (flag : Bool) (s : List ℕ) (r r' : Result ℕ CountsError) (n n' at at' : ℕ) → n ≡ n' → at ≡ at' → r ≡ r' → MeasureWalk flag n at s r → MeasureWalk flag n' at' s r'
measure_found flag s r r' n n' at at' e f g h = rw (e, f, g) at h
