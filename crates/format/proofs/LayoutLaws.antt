-- Fields one after the other: each stands at the sum of the widths before it, and storing them in turn stores them all.
use mathlib.Core.Path.{◌≡◌, refl, sym, ap, ap₂, ◌∙◌}
use mathlib.Core.List.{List, [], ◌∷◌, ◌++◌, map, flatten, append-nil, append_assoc}
use Prim.Native.Nat.{ℕ, zero, suc, ◌+◌, ◌-◌, ◌≤◌, ◌<◌}
use native.Mathlib.Nat.{not-suc-le-zero, le_of_suc-le-suc, zero-add, add-zero, add-suc, suc-add}
use native.Mathlib.Numerals.{add-one}
use native.Mathlib.Omega.{arith}
use lib.ListN.{length, get_or, take, drop, set, length-append, drop_of_length-le}
use lib.Seq.{drop-cons, sets, sets-eq, set_comm, take_at, drop_at, length-take-le, drop-append-add, drop-drop, take-add, take-take, take-nil}
use Rattle.format.specs.Bytes.{field}
use Rattle.format.specs.Shapes.{sum}

abbrev pub widths : List (List ℕ) → List ℕ
widths fs = map length fs

pub sum_drop : (ws : List ℕ) (i : ℕ) → i < length ws → sum (drop i ws) ≡ get_or ws i 0 + sum (drop (i + 1) ws)
sum_drop ws i h = rw (drop-cons ws i 0 h, add-one)

-- where field i starts
abbrev pub start : List ℕ → ℕ → ℕ
start ws i = sum (take i ws)

pub length-flatten : (fs : List (List ℕ)) → length (flatten fs) ≡ sum (widths fs)
unfolding flatten
length-flatten [] = refl
length-flatten (f ∷ fs) = length-append f (flatten fs) ∙ ap (λ (n : ℕ). length f + n) (length-flatten fs)

pub field-flatten : (fs : List (List ℕ)) (i : ℕ) → i < length fs → field (get_or (widths fs) i 0) (start (widths fs) i) (flatten fs) ≡ get_or fs i []
unfolding flatten field
field-flatten [] i h = absurd (not-suc-le-zero h)
field-flatten (f ∷ fs) zero h = take_at f (flatten fs) (length f) refl
field-flatten (f ∷ fs) (suc i) h =
    ap (take (get_or (widths fs) i 0)) (drop-append-add f (flatten fs) (start (widths fs) i)) ∙ field-flatten fs i (le_of_suc-le-suc h)

-- one field more behind the others
pub flatten_more : (fs : List (List ℕ)) (f : List ℕ) → flatten (fs ++ f ∷ []) ≡ flatten fs ++ f
unfolding flatten
flatten_more [] f = append-nil f
flatten_more (g ∷ fs) f = ap (◌++◌ g) (flatten_more fs f) ∙ sym (append_assoc g (flatten fs) f)

-- ---- stores

pub sets-append {ℓ} : {A : Type ℓ} (a b l : List A) (i : ℕ) → sets l i (a ++ b) ≡ sets (sets l i a) (i + length a) b
sets-append [] b l i = rw add-zero
sets-append (x ∷ a) b l i = rw (add-suc, ← suc-add) (sets-append a b (set l i x) (suc i))

-- bytes that are stored right behind others
pub onto : (out l l' a b : List ℕ) (at i : ℕ) → i ≡ at + length a → l ≡ sets out at a → l' ≡ sets l i b → l' ≡ sets out at (a ++ b)
onto out l l' a b at i p e f = f ∙ (ap₂ (λ (s : List ℕ) (k : ℕ). sets s k b) e p ∙ sym (sets-append a b out at))

-- what was stored stands where it was stored, behind what stood in front of it
module _ (n : ℕ) (vs l : List ℕ) (i : ℕ) (e : length vs ≡ n) (h : i + n ≤ length l) where
  abbrev behind : List ℕ
  behind = drop (i + length vs) l

  front_length : length (take i l) ≡ i
  front_length = length-take-le i l (omega arith)

  pub field-sets : field n i (sets l i vs) ≡ vs
  unfolding field
  field-sets =
      ap (λ (s : List ℕ). take n (drop i s)) (sets-eq vs l i (omega arith) ∙ append_assoc (take i l) vs behind)
      ∙ (ap (take n) (drop_at (take i l) (vs ++ behind) i front_length) ∙ take_at vs behind n e)

  pub take-sets : take (i + n) (sets l i vs) ≡ take i l ++ vs
  take-sets =
      ap (take (i + n)) (sets-eq vs l i (omega arith))
      ∙ take_at (take i l ++ vs) behind (i + n) (length-append (take i l) vs ∙ ap₂ ◌+◌ front_length e)

-- a whole list stored over one as long
pub sets_all {ℓ} : {A : Type ℓ} (vs l : List A) → length vs ≡ length l → sets l 0 vs ≡ vs
sets_all {A = A} vs l e =
    let h : 0 + length vs ≤ length l = omega arith in
    let z : length l ≤ 0 + length vs = omega arith in
    sets-eq vs l 0 h ∙ ap (λ (t : List A). vs ++ t) (drop_of_length-le l z) ∙ append-nil vs

-- the last one first
pub sets_snoc : (vs l : List ℕ) (i a : ℕ) → sets l i (vs ++ a ∷ []) ≡ sets (set l (i + length vs) a) i vs
sets_snoc [] l i a = rw add-zero
sets_snoc (v ∷ vs) l i a =
    sets_snoc vs (set l i v) (suc i) a
    ∙ ap (λ (x : List ℕ). sets x (suc i) vs)
    (ap (λ (k : ℕ). set (set l i v) k a) (suc-add i (length vs) ∙ sym (add-suc i (length vs)))
    ∙ set_comm l i (i + suc (length vs)) v a (omega arith))

-- ---- bytes cut into fields of given widths

abbrev pub pieces : List ℕ → ℕ → List ℕ → List (List ℕ)
pieces [] at s = []
pieces (w ∷ ws) at s = field w at s ∷ pieces ws (at + w) s

pub flatten_pieces : (ws : List ℕ) (at : ℕ) (s : List ℕ) → flatten (pieces ws at s) ≡ field (sum ws) at s
unfolding flatten field
flatten_pieces [] at s = refl
flatten_pieces (w ∷ ws) at s =
    ap (λ (l : List ℕ). take w (drop at s) ++ l) (flatten_pieces ws (at + w) s ∙ ap (take (sum ws)) (sym (drop-drop w at s)))
    ∙ sym (take-add w (sum ws) (drop at s))

drop-take : (i n : ℕ) (l : List ℕ) → drop i (take (i + n) l) ≡ take n (drop i l)
drop-take zero n l = rw zero-add
drop-take (suc i) n [] = rw suc-add (sym (take-nil n))
drop-take (suc i) n (x ∷ l) = rw suc-add (drop-take i n l)

-- a field of the first n bytes is that field of the bytes
pub field-take : (n w at : ℕ) (s : List ℕ) → at + w ≤ n → field w at (take n s) ≡ field w at s
unfolding field
field-take n w at s h =
    let e : n ≡ at + (n - at) = omega arith in
    let k : w ≤ n - at = omega arith in
    ap (λ (m : ℕ). take w (drop at (take m s))) e ∙ (ap (take w) (drop-take at (n - at) s) ∙ take-take w (n - at) (drop at s) k)
