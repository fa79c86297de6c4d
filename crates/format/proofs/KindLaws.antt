-- Laws of the table of kinds: a search that has come to row i, codes by their sign, and what the lookup says.
use mathlib.Core.Path.{◌≡◌, refl, sym, ap, ◌∙◌, subst}
use mathlib.Core.Bool.{Bool, true, false, cond, ◌&&◌, ◌||◌, not}
use mathlib.Core.List.{List, [], ◌∷◌}
use mathlib.Core.Option.{Option, none, some}
use Prim.Native.Nat.{ℕ, zero, suc, ◌^◌, ◌≤◌, ◌<◌}
use native.Mathlib.Nat.{not-suc-le-zero, le_of_suc-le-suc}
use native.Mathlib.Omega.{arith}
use lib.Dec.{eqb, ltb}
use lib.IntN.{ℤ, pos, negsuc}
use lib.ListN.{length, get_or, get_elem?}
use mir.Val.{sel}
use Rattle.std.specs.List.{position_or_len}
use Rattle.std.proofs.lemmas.List.Recursion.{is_position_or_len}
use Rattle.std.specs.Prelude as Std
use Rattle.std.specs.Prelude.{Result, Ok, Err}
use borrow.Author.Tests.{ltb-true, ltb-false, eqb-true}
use Rattle.format.specs.declared.kinds.Kind.{Kind}
use Rattle.format.specs.declared.kinds.UnknownKind.{UnknownKind}
use Rattle.format.specs.Encoding.{Held}
use Rattle.format.specs.Kinds.{kinds, kinds_passed, row_of, row_at, kind_at, said_found, or_unknown, kind_of, known}
use Rattle.format.specs.Lengths.{Form, nothing, one_point, many_points, is_multipoint, form_of}
use Rattle.format.specs.Lengths
use Rattle.format.specs.WellFormed.{has_rings}
use Rattle.format.specs.Bytes.{le, field}
use Rattle.format.specs.Numbers.{le_i32}
use Rattle.format.specs.Said.{gives, unknown, is_given}
use Rattle.format.specs.Shapes.{there}
use Rattle.format.proofs.OrderLaws.{both_true}

-- a search by the code passes as many rows, and no more than there are
rows_passed : (code : ℕ) (l : List Kind) → row_of code l ≡ position_or_len (λ (k : Kind). eqb k.code code) l
unfolding row_of
rows_passed code l = is_position_or_len (row_of code) (λ (k : Kind). eqb k.code code) refl (λ x xs. ap (cond (eqb x.code code) 0) (omega arith)) l

few : (code : ℕ) (l : List Kind) → row_of code l ≤ length l
unfolding row_of
few code [] = omega arith
few code (k ∷ l) = one_more (eqb k.code code) (few code l)
  where
    one_more : {n m : ℕ} (b : Bool) → n ≤ m → cond b 0 (suc n) ≤ suc m
    one_more true h = omega arith
    one_more false h = omega arith

pub row_found : (code : ℕ) (l : List Kind) (r : Std.Option ℕ)
    → r ≡ cond (ltb (position_or_len (λ (k : Kind). eqb k.code code) l) (length l)) (Std.Some (position_or_len (λ (k : Kind). eqb k.code code) l)) Std.None
    → length l ≡ length kinds → kinds_passed r ≡ row_of code l
row_found code l r e m = go (ltb (row_of code l) (length l)) refl (rw (← rows_passed code l) at e)
  where
    go : (b : Bool) → ltb (row_of code l) (length l) ≡ b → r ≡ cond b (Std.Some (row_of code l)) Std.None → kinds_passed r ≡ row_of code l
    go true t q = ap kinds_passed q
    go false t q = ap kinds_passed q ∙ omega (arith, m, few code l, ltb-false _ _ t)

-- the row that is found has the code
row_by : (b : Bool) (n : ℕ) (h : Kind) (l : List Kind) (k : Kind) → eqb h.code n ≡ b → (get_elem? l (row_of n l) ≡ some k → k.code ≡ n) → get_elem? (h ∷ l) (cond b 0 (suc (row_of n l))) ≡ some k → k.code ≡ n
row_by true n h l k e on p = let q : h ≡ k = cc in ap (λ (x : Kind). x.code) (sym q) ∙ eqb-true h.code n e
row_by false n h l k e on p = on p

row_code : (n : ℕ) (l : List Kind) (k : Kind) → get_elem? l (row_of n l) ≡ some k → k.code ≡ n
unfolding row_of
row_code n [] k p = cc
row_code n (h ∷ l) k p = row_by (eqb h.code n) n h l k refl (row_code n l k) p

pub found_code : (n : ℕ) (k : Kind) → kind_at (pos n) ≡ some k → k.code ≡ n
found_code n k e = row_code n kinds k e

pub code_is : (z : ℤ) (k : Kind) → kind_at z ≡ some k → z ≡ pos k.code
code_is (pos n) k e = ap pos (sym (found_code n k e))
code_is (negsuc n) k e = cc

-- what a computed test of the whole table says of it
abbrev pub every : (Kind → Bool) → List Kind → Bool
every ok [] = true
every ok (k ∷ rows) = ok k && every ok rows

row_in : (ok : Kind → Bool) (l : List Kind) (i : ℕ) (k : Kind) → every ok l ≡ true → get_elem? l i ≡ some k → ok k ≡ true
row_in ok [] i k t e = absurd (let z : ◌≡◌ {A = ℕ} 0 1 = cc in omega arith)
row_in ok (r ∷ rows) zero k t e = let q : r ≡ k = cc in subst (λ (x : Kind). ok x ≡ true) q (both_true (ok r) (every ok rows) t).0
row_in ok (r ∷ rows) (suc i) k t e = row_in ok rows i k (both_true (ok r) (every ok rows) t).1 e

pub of_table : (ok : Kind → Bool) → every ok kinds ≡ true → (z : ℤ) (k : Kind) → kind_at z ≡ some k → ok k ≡ true
of_table ok t (pos n) k e = row_in ok kinds (row_of n kinds) k t e
of_table ok t (negsuc n) k e = absurd (let z : ◌≡◌ {A = ℕ} 0 1 = cc in omega arith)

-- ---- in every row an i32 field holds the code, and rings are parts

abbrev has_parts : Option Form → Bool
has_parts none = false
has_parts (some nothing) = false
has_parts (some one_point) = false
has_parts (some many_points) = false
has_parts (some Lengths.parts) = true

abbrev right : Kind → Bool
right k = ltb k.code (2 ^ 31) && (not (has_rings k) || has_parts (form_of k))

table : every right kinds ≡ true
unfolding kinds has_rings form_of is_multipoint
table = refl

parts-of : (o : Option Form) → has_parts o ≡ true → o ≡ some Lengths.parts
parts-of none e = absurd (let z : ◌≡◌ {A = ℕ} 0 1 = cc in omega arith)
parts-of (some nothing) e = absurd (let z : ◌≡◌ {A = ℕ} 0 1 = cc in omega arith)
parts-of (some one_point) e = absurd (let z : ◌≡◌ {A = ℕ} 0 1 = cc in omega arith)
parts-of (some many_points) e = absurd (let z : ◌≡◌ {A = ℕ} 0 1 = cc in omega arith)
parts-of (some Lengths.parts) e = refl

module _ (z : ℤ) (k : Kind) (e : kind_at z ≡ some k) where
  tests : (ltb k.code (2 ^ 31) ≡ true) × ((not (has_rings k) || has_parts (form_of k)) ≡ true)
  tests = both_true _ _ (of_table right table z k e)

  pub code-held : Held k.code
  code-held = ltb-true _ _ tests.0

  pub rings_parts : has_rings k ≡ true → form_of k ≡ some Lengths.parts
  rings_parts r = parts-of (form_of k) (rw r at tests.1)

-- ---- what the lookup says of the row

module _ (z : ℤ) (r : Result Kind UnknownKind) (e : said_found r ≡ kind_of z) where
  -- whether the code is known, by what was found
  pub known_found : (r' : Result Kind UnknownKind) → r ≡ r' → known z ≡ is_given (said_found r')
  unfolding known
  known_found r' f = ap is_given (sym e ∙ ap said_found f)

  pub kind_found : (k : Kind) → r ≡ Ok k → kind_at z ≡ some k
  unfolding kind_of
  kind_found k f = go (kind_at z) (ap said_found (sym f) ∙ e)
    where
      go : (o : Option Kind) → gives k ≡ or_unknown z o → o ≡ some k
      go none q = absurd (let z : ◌≡◌ {A = ℕ} 0 1 = cc in omega arith)
      go (some x) q = cc

  pub none_found : (f : UnknownKind) → r ≡ Err f → kind_at z ≡ none
  unfolding kind_of
  none_found f q = go (kind_at z) (ap said_found (sym q) ∙ e)
    where
      go : (o : Option Kind) → unknown f.0 ≡ or_unknown z o → o ≡ none
      go none q = refl
      go (some x) q = absurd (let z : ◌≡◌ {A = ℕ} 0 1 = cc in omega arith)

  -- the code that is refused is the one that was asked
  pub named_code : (f : UnknownKind) → r ≡ Err f → f.0 ≡ z
  unfolding kind_of
  named_code f q = go (kind_at z) (ap said_found (sym q) ∙ e)
    where
      go : (o : Option Kind) → unknown f.0 ≡ or_unknown z o → f.0 ≡ z
      go none p = cc
      go (some x) p = cc

pub known-there : (z : ℤ) → known z ≡ there (kind_at z)
unfolding known kind_of
known-there z = go (kind_at z)
  where
    go : (o : Option Kind) → is_given (or_unknown z o) ≡ there o
    go none = refl
    go (some k) = refl

pub known_some : (z : ℤ) (k : Kind) → kind_at z ≡ some k → known z ≡ true
known_some z k e = known-there z ∙ ap there e

pub kind_of_is : (z : ℤ) → kind_of z ≡ or_unknown z (kind_at z)
unfolding kind_of
kind_of_is z = refl

-- ---- the row that a search has found

module _ {A : Type 0} where
  elem_in : (l : List A) (i : ℕ) (d : A) → i < length l → get_elem? l i ≡ some (get_or l i d)
  elem_in [] i d h = absurd (not-suc-le-zero h)
  elem_in (a ∷ l) zero d h = refl
  elem_in (a ∷ l) (suc i) d h = elem_in l i d (le_of_suc-le-suc h)

  elem_out : (l : List A) (i : ℕ) → length l ≤ i → get_elem? l i ≡ none
  elem_out [] i h = refl
  elem_out (a ∷ l) zero h = absurd (not-suc-le-zero h)
  elem_out (a ∷ l) (suc i) h = elem_out l i (le_of_suc-le-suc h)

kind_at_row : (z : ℤ) → kind_at z ≡ get_elem? kinds (row_at z)
unfolding kinds
kind_at_row (pos n) = refl
kind_at_row (negsuc n) = refl

module _ (z : ℤ) (i : ℕ) (r : i ≡ row_at z) where
  pub kind-in : (d : Kind) → i < 14 → kind_at z ≡ some (get_or kinds i d)
  unfolding kinds
  kind-in d h = kind_at_row z ∙ (ap (get_elem? kinds) (sym r) ∙ elem_in kinds i d h)

  pub kind-out : 14 ≤ i → kind_at z ≡ none
  unfolding kinds
  kind-out h = kind_at_row z ∙ (ap (get_elem? kinds) (sym r) ∙ elem_out kinds i h)

-- ---- codes of 32 bits

row_out : (o : Option Kind) (n : ℕ) → kind_at (pos n) ≡ o → 2 ^ 31 ≤ n → o ≡ none
row_out none n e h = refl
row_out (some k) n e h = absurd (omega (arith, code-held (pos n) k e, found_code n k e))

by_sign : (n m : ℕ) (b : Bool) → ltb n (2 ^ 31) ≡ b → kind_at (sel b (pos n) (negsuc m)) ≡ kind_at (pos n)
by_sign n m true t = refl
by_sign n m false t = sym (row_out (kind_at (pos n)) n refl (ltb-false n (2 ^ 31) t))

-- so a field names the same kind by its bits as by its value
pub named_at : (at : ℕ) (s : List ℕ) → kind_at (le_i32 at s) ≡ kind_at (pos (le (field 4 at s)))
unfolding le_i32
named_at at s = by_sign (le (field 4 at s)) _ (ltb (le (field 4 at s)) (2 ^ 31)) refl
