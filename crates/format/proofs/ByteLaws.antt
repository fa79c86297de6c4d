-- Laws of fields, and of numbers as bytes, over the width: reading undoes writing, and writing undoes reading.
use mathlib.Core.Path.{◌≡◌, refl, sym, ap, ◌∙◌}
use mathlib.Core.List.{List, [], ◌∷◌, ◌++◌, reverse, reverse_aux, reverse-reverse, reverse-cons, reverse-append}
use Prim.Native.Nat.{ℕ, zero, suc, ◌+◌, ◌*◌, ◌-◌, ◌/◌, ◌%◌, ◌^◌, ◌≤◌, ◌<◌}
use native.Mathlib.Nat.{mul-suc}
use native.Mathlib.Numerals.{add-one}
use native.Mathlib.Omega.{arith}
use lib.Dec.{lit<}
use lib.Pow.{pow-add}
use lib.ListN.{length, get_or, take, drop, length-reverse, length-drop, set}
use lib.Seq.{length-take-le, take_all, drop-cons, drop-drop, sets, take-suc, get_or-drop}
use Rattle.format.specs.Bytes.{le, be, le_bytes, be_bytes, field}
use Rattle.format.proofs.LayoutLaws.{sets_snoc}

-- ---- a field, a byte at a time, and behind a place

pub field-none : (at : ℕ) (s : List ℕ) → field 0 at s ≡ []
unfolding field
field-none at s = refl

pub field-cons : (n at : ℕ) (s : List ℕ) → at < length s → field (suc n) at s ≡ get_or s at 0 ∷ field n (at + 1) s
unfolding field
field-cons n at s h = rw (add-one, drop-cons s at 0)

-- ---- lengths

pub length_le_bytes : (n x : ℕ) → length (le_bytes n x) ≡ n
unfolding le_bytes
length_le_bytes zero x = refl
length_le_bytes (suc n) x = ap suc (length_le_bytes n (x / 256))

pub length-be_bytes : (n x : ℕ) → length (be_bytes n x) ≡ n
unfolding be_bytes
length-be_bytes n x = length-reverse (le_bytes n x) ∙ length_le_bytes n x

-- ---- one byte more

pub le-none : (at : ℕ) (s : List ℕ) → le (field 0 at s) ≡ 0
unfolding le field
le-none at s = refl

pub be-none : (at : ℕ) (s : List ℕ) → be (field 0 at s) ≡ 0
unfolding be le field
be-none at s = refl

pub le_more : (s : List ℕ) (m j : ℕ) → j < length s → le (field (suc m) j s) ≡ get_or s j 0 + 256 * le (field m (suc j) s)
unfolding le field
le_more s m j h = rw (drop-cons s j 0)

be_snoc : (l : List ℕ) (b : ℕ) → be (l ++ b ∷ []) ≡ b + 256 * be l
unfolding le be
be_snoc l b = ap le (reverse-append l (b ∷ []))

pub be_more : (s : List ℕ) (m j : ℕ) → j + m < length s → be (field (suc m) j s) ≡ get_or s (j + m) 0 + 256 * be (field m j s)
unfolding field
be_more s m j h =
    let p : m < length (drop j s) = simp length-drop (omega arith) in
    ap be (take-suc (drop j s) m 0 p) ∙ be_snoc (take m (drop j s)) (get_or (drop j s) m 0)
    ∙ ap (λ (b : ℕ). b + 256 * be (take m (drop j s))) (get_or-drop j s m 0)

-- the low byte goes in first, behind the others
pub sets-be : (l : List ℕ) (n at x : ℕ) → sets l at (be_bytes (suc n) x) ≡ sets (set l (at + n) (x % 256)) at (be_bytes n (x / 256))
unfolding be_bytes le_bytes
sets-be l n at x =
    ap (sets l at) (reverse-cons (x % 256) (le_bytes n (x / 256)))
    ∙ sets_snoc (be_bytes n (x / 256)) l at (x % 256)
    ∙ ap (λ (k : ℕ). sets (set l (at + k) (x % 256)) at (be_bytes n (x / 256))) (length-be_bytes n (x / 256))

-- ---- what is written is read back, at every width

pub le_le_bytes : (n x : ℕ) → x < 2 ^ (8 * n) → le (le_bytes n x) ≡ x
unfolding le le_bytes
le_le_bytes zero x h = omega arith
le_le_bytes (suc n) x h =
    let e : 2 ^ (8 * suc n) ≡ 2 ^ (8 * n) * 256 = ap (λ (k : ℕ). 2 ^ k) (mul-suc 8 n) ∙ pow-add 2 (8 * n) 8 in
    let i : le (le_bytes n (x / 256)) ≡ x / 256 = le_le_bytes n (x / 256) (omega arith) in
    omega arith

pub be-be_bytes : (n x : ℕ) → x < 2 ^ (8 * n) → be (be_bytes n x) ≡ x
unfolding be be_bytes
be-be_bytes n x h = ap le (reverse-reverse (le_bytes n x)) ∙ le_le_bytes n x h

-- ---- and what is read is written back, where the list has bytes alone

-- every element is a byte
abbrev pub AllBytes : List ℕ → Type 0
AllBytes [] = Unit {0}
AllBytes (b ∷ l) = (b < 256) × AllBytes l

-- as a slice of u8 tells it of its list
pub all_bytes : (l : List ℕ) → ((i : ℕ) → get_or l i 0 < 256) → AllBytes l
all_bytes [] h = tt
all_bytes (b ∷ l) h = (h 0, all_bytes l (λ i. h (suc i)))

pub le_bytes_le : (l : List ℕ) → AllBytes l → le_bytes (length l) (le l) ≡ l
unfolding le le_bytes
le_bytes_le [] h = refl
le_bytes_le (b ∷ l) h =
    let p : b < 256 = h.0 in
    let low : (b + 256 * le l) % 256 ≡ b = omega arith in
    let high : (b + 256 * le l) / 256 ≡ le l = omega arith in
    rw (low, high) (ap (◌∷◌ b) (le_bytes_le l h.1))

all_aux : (l r : List ℕ) → AllBytes l → AllBytes r → AllBytes (reverse_aux l r)
all_aux [] r h k = k
all_aux (b ∷ l) r h k = all_aux l (b ∷ r) h.1 (h.0, k)

all_reverse : (l : List ℕ) → AllBytes l → AllBytes (reverse l)
all_reverse l h = all_aux l [] h tt

pub be_bytes-be : (l : List ℕ) → AllBytes l → be_bytes (length l) (be l) ≡ l
unfolding be be_bytes
be_bytes-be l h =
    ap (λ (n : ℕ). reverse (le_bytes n (le (reverse l)))) (sym (length-reverse l))
    ∙ (ap reverse (le_bytes_le (reverse l) (all_reverse l h)) ∙ reverse-reverse l)

-- ---- it is below the width's power

le_lt : (l : List ℕ) → AllBytes l → le l < 2 ^ (8 * length l)
unfolding le
le_lt [] h = lit< tt
le_lt (b ∷ l) h =
    let p : b < 256 = h.0 in
    let i : le l < 2 ^ (8 * length l) = le_lt l h.1 in
    let e : 2 ^ (8 * suc (length l)) ≡ 2 ^ (8 * length l) * 256 = ap (λ (k : ℕ). 2 ^ k) (mul-suc 8 (length l)) ∙ pow-add 2 (8 * length l) 8 in
    omega arith

be_lt : (l : List ℕ) → AllBytes l → be l < 2 ^ (8 * length l)
unfolding be
be_lt l h = rw (← length-reverse l) (le_lt (reverse l) (all_reverse l h))

-- ---- the same of a field that lies within the bytes

all_take : (n : ℕ) (l : List ℕ) → AllBytes l → AllBytes (take n l)
all_take zero l h = tt
all_take (suc n) [] h = tt
all_take (suc n) (b ∷ l) h = (h.0, all_take n l h.1)

pub all_drop : (n : ℕ) (l : List ℕ) → AllBytes l → AllBytes (drop n l)
all_drop zero l h = h
all_drop (suc n) [] h = tt
all_drop (suc n) (b ∷ l) h = all_drop n l h.1

pub length-field : (n at : ℕ) (s : List ℕ) → at + n ≤ length s → length (field n at s) ≡ n
unfolding field
length-field n at s h =
    let k : n ≤ length (drop at s) = simp length-drop (omega arith) in
    length-take-le n (drop at s) k

-- of a field that the bytes end inside, what follows its place is present
pub length_cut : (n at : ℕ) (s : List ℕ) → length s ≤ at + n → length (field n at s) ≡ length s - at
unfolding field
length_cut n at s h =
    let k : length (drop at s) ≤ n = simp length-drop (omega arith) in
    ap length (take_all n (drop at s) k) ∙ length-drop at s

module _ (n at : ℕ) (s : List ℕ) (h : AllBytes s) (k : at + n ≤ length s) where
  all_field : AllBytes (field n at s)
  unfolding field
  all_field = all_take n (drop at s) (all_drop at s h)

  pub le_bytes_field : le_bytes n (le (field n at s)) ≡ field n at s
  le_bytes_field = ap (λ (m : ℕ). le_bytes m (le (field n at s))) (sym (length-field n at s k)) ∙ le_bytes_le (field n at s) all_field

  pub be_bytes-field : be_bytes n (be (field n at s)) ≡ field n at s
  be_bytes-field = ap (λ (m : ℕ). be_bytes m (be (field n at s))) (sym (length-field n at s k)) ∙ be_bytes-be (field n at s) all_field

  pub le_field_lt : le (field n at s) < 2 ^ (8 * n)
  le_field_lt = rw (length-field n at s k) at (le_lt (field n at s) all_field)

  pub be_field_lt : be (field n at s) < 2 ^ (8 * n)
  be_field_lt = rw (length-field n at s k) at (be_lt (field n at s) all_field)
