-- Laws of tests in order, as code meets them: a test passed and the next stands, a test failed and its refusal is the answer.
use mathlib.Core.Path.{◌≡◌, refl, sym, ap, ap₂, ◌∙◌, subst}
use mathlib.Core.Bool.{Bool, true, false, cond, ◌&&◌}
use mathlib.Core.List.{List, [], ◌∷◌, ◌++◌}
use Prim.Native.Nat.{ℕ, zero, suc, ◌+◌, ◌*◌, ◌-◌, ◌/◌, ◌%◌, ◌≤◌, ◌<◌}
use native.Mathlib.Nat.{mul-suc, suc-mul, mul-zero, zero-mul, add-zero, add-div_left, div-eq_of_lt, add-mod_left, mod-eq_of_lt}
use native.Mathlib.Numerals.{add-one}
use native.Mathlib.Omega.{arith}
use lib.Dec.{T, leb}
use lib.ListN.{length, drop}
use borrow.Author.Tests.{le-leb, leb-true, leb-false}
use Rattle.format.specs.Bytes.{field}
use Rattle.format.specs.Order.{first, fields_from}
use Rattle.format.specs.Said.{Said, gives, refuses, short, unless_refused, Numbered}
use Rattle.format.proofs.ByteLaws.{length_cut}

-- ---- of fields of w bytes each, from a place on: the one that l bytes end inside

-- where it stands, and how many of its bytes are present
abbrev pub cut_place : ℕ → ℕ → ℕ → ℕ
cut_place w at l = at + (l - at) / w * w

abbrev pub cut_count : ℕ → ℕ → ℕ → ℕ
cut_count w at l = (l - at) % w

-- after one more field
module _ (w : ℕ) (pw : 0 < w) (at l : ℕ) (p : at + w ≤ l) where
  after_one : l - at ≡ w + (l - (at + w))
  after_one = omega arith

  next_place : cut_place w (at + w) l ≡ cut_place w at l
  next_place =
      let d : (l - at) / w ≡ (l - (at + w)) / w + 1 = rw after_one (add-div_left (l - (at + w)) pw) in
      let q = (l - (at + w)) / w in
      rw (d, add-one, suc-mul q w) (omega arith)

  next_count : cut_count w (at + w) l ≡ cut_count w at l
  next_count = sym (rw after_one (add-mod_left w (l - (at + w))))

-- ---- tests joined by `and`

pub both_hold : (a b : Bool) → T (a && b) → T a × T b
both_hold true b t = (tt, t)
both_hold false b t = absurd t

pub both_true : (a b : Bool) → a && b ≡ true → (a ≡ true) × (b ≡ true)
both_true true b e = (refl, e)
both_true false b e = absurd (subst T (sym e) tt)

-- ---- tests in order

module _ {A : Type 0} where
  pub first-append : (ts us : List (Bool × A)) (a : A) → first (ts ++ us) a ≡ first ts (first us a)
  first-append [] us a = refl
  first-append (t ∷ ts) us a = ap (λ r. cond t.0 r t.1) (first-append ts us a)

  -- what is left of the tests from test k on
  abbrev pub rest : ℕ → List (Bool × A) → A → A
  rest k ts a = first (drop k ts) a

  -- test k, and its refusal
  abbrev pub ok_at : ℕ → List (Bool × A) → Bool
  ok_at k [] = true
  ok_at zero (t ∷ ts) = t.0
  ok_at (suc k) (t ∷ ts) = ok_at k ts

  abbrev pub no_at : ℕ → List (Bool × A) → A → A
  no_at k [] a = a
  no_at zero (t ∷ ts) a = t.1
  no_at (suc k) (t ∷ ts) a = no_at k ts a

  passes : (ts : List (Bool × A)) (a : A) (k : ℕ) → ok_at k ts ≡ true → rest k ts a ≡ rest (suc k) ts a
  passes [] a zero e = refl
  passes [] a (suc k) e = refl
  passes (t ∷ ts) a zero e = rw e
  passes (t ∷ ts) a (suc k) e = passes ts a k e

  fails : (ts : List (Bool × A)) (a : A) (k : ℕ) → ok_at k ts ≡ false → rest k ts a ≡ no_at k ts a
  fails [] a zero e = refl
  fails [] a (suc k) e = refl
  fails (t ∷ ts) a zero e = rw e
  fails (t ∷ ts) a (suc k) e = fails ts a k e

  -- of an answer r that the tests from k on decide
  pub on : (ts : List (Bool × A)) (a r : A) (k : ℕ) → r ≡ rest k ts a → ok_at k ts ≡ true → r ≡ rest (suc k) ts a
  on ts a r k p e = p ∙ passes ts a k e

  pub stop : (ts : List (Bool × A)) (a r : A) (k : ℕ) → r ≡ rest k ts a → ok_at k ts ≡ false → no_at k ts a ≡ r
  stop ts a r k p e = sym (p ∙ fails ts a k e)

  -- ---- fields

  -- one that the bytes end inside: how many of its bytes are present, as code counts them
  pub present : (short : ℕ → ℕ → A) (w at : ℕ) (s : List ℕ) (c : ℕ) → at + c ≡ length s → c < w → short at c ≡ short at (length (field w at s))
  present short w at s c e h =
      let n : length s - at ≡ c = omega arith in
      ap (short at) (sym (length_cut w at s (omega arith) ∙ n))

  -- fields of one width, w bytes each

  module _ (w : ℕ) (pw : 0 < w) where
    pub fields_whole : (n at : ℕ) (s : List ℕ) (short : ℕ → ℕ → A) (a : A) → at + w * n ≤ length s → first (fields_from w n at s short) a ≡ a
    fields_whole zero at s short a h = refl
    fields_whole (suc n) at s short a h =
        let k : at + (w * n + w) ≤ length s = rw mul-suc at h in
        let p : at + w ≤ length s = omega arith in
        let q : at + w + w * n ≤ length s = omega arith in
        rw (le-leb (at + w) (length s) p) (fields_whole n (at + w) s short a q)

    module _ (s : List ℕ) (short : ℕ → ℕ → A) where
      abbrev cut_from : ℕ → A
      cut_from at = short (cut_place w at (length s)) (cut_count w at (length s))

      -- by the test of the first of them
      cut_by : (b : Bool) (at n : ℕ) (r : A) → leb (at + w) (length s) ≡ b → at ≤ length s → length s < at + w * suc n → (at + w ≤ length s → length s < at + w + w * n → r ≡ cut_from (at + w)) → cond b r (short at (length (field w at s))) ≡ cut_from at
      cut_by true at n r e h k ih =
          let p : at + w ≤ length s = leb-true (at + w) (length s) e in
          let m : length s < at + (w * n + w) = rw mul-suc at k in
          let q : length s < at + w + w * n = omega arith in
          ih p q ∙ ap₂ short (next_place w pw at (length s) p) (next_count w pw at (length s) p)
      cut_by false at n r e h k ih =
          let p : length s < at + w = leb-false (at + w) (length s) e in
          let m : length s - at < w = omega arith in
          ap₂ short (rw (div-eq_of_lt m, zero-mul, add-zero) refl) (length_cut w at s (omega arith) ∙ sym (mod-eq_of_lt m))

    -- the first of them that the bytes end inside
    pub fields_cut : (n at : ℕ) (s : List ℕ) (short : ℕ → ℕ → A) (a : A) → at ≤ length s → length s < at + w * n → first (fields_from w n at s short) a ≡ short (cut_place w at (length s)) (cut_count w at (length s))
    fields_cut zero at s short a h k = absurd (let m : length s < at + 0 = rw mul-zero at k in omega arith)
    fields_cut (suc n) at s short a h k =
        cut_by s short (leb (at + w) (length s)) at n (first (fields_from w n (at + w) s short) a) refl h k (λ p q. fields_cut n (at + w) s short a p q)

-- ---- an answer that no test refuses with passed every test

-- a proof for each test, one after the other
infixr 20 ◌then◌
abbrev pub ◌then◌ : {A B : Type 0} → A → B → A × B
a then b = (a, b)

module _ {A : Type 0} where
  -- every test passes
  abbrev pub Pass : List (Bool × A) → Type 0
  Pass [] = Unit {0}
  Pass (t ∷ ts) = (t.0 ≡ true) × Pass ts

  pub all_pass : (ts : List (Bool × A)) (a : A) → Pass ts → first ts a ≡ a
  all_pass [] a p = refl
  all_pass (t ∷ ts) a p = rw p.0 (all_pass ts a p.1)

  each : (ts : List (Bool × A)) → Pass ts → (k : ℕ) → ok_at k ts ≡ true
  each [] p k = refl
  each (t ∷ ts) p zero = p.0
  each (t ∷ ts) p (suc k) = each ts p.1 k

  -- none refuses with x
  module _ (x : A) where
    abbrev Refuse : List (Bool × A) → Type 0
    Refuse [] = Unit {0}
    Refuse (t ∷ ts) = (t.1 ≡ x → ⊥) × Refuse ts

    by_test : (b : Bool) (r on : A) → (r ≡ x → ⊥) → cond b on r ≡ x → (b ≡ true) × (on ≡ x)
    by_test true r on n e = (refl, e)
    by_test false r on n e = absurd (n e)

    pass : (ts : List (Bool × A)) (a : A) → Refuse ts → first ts a ≡ x → Pass ts × (a ≡ x)
    pass [] a r e = (tt, e)
    pass (t ∷ ts) a r e =
        let p = by_test t.0 t.1 (first ts a) r.0 e in
        let q = pass ts a r.1 p.1 in
        ((p.0, q.0), q.1)

-- ---- a value is no refusal

abbrev pub is_refusal : {A : Type 0} → Said A → Bool
is_refusal (gives a) = false
is_refusal (refuses n vs) = true

-- a refusal leaves a store as it was
pub kept : {A B : Type 0} (said : Said A) → T (is_refusal said) → (before after : B) → before ≡ unless_refused said before after
kept (gives a) t before after = absurd t
kept (refuses n vs) t before after = refl

-- each test has a refusal beside it
abbrev pub refusing : {A : Type 0} → List (Bool × Said A) → Bool
refusing [] = true
refusing (t ∷ ts) = is_refusal t.1 && refusing ts

module _ {A : Type 0} (a x : A) where
  no_gift : (r : Said A) → T (is_refusal r) → r ≡ gives x → ⊥
  no_gift (gives b) t e = t
  no_gift (refuses n vs) t e = let z : ◌≡◌ {A = ℕ} 0 1 = cc in omega arith

  no_gifts : (ts : List (Bool × Said A)) → T (refusing ts) → Refuse (gives x) ts
  no_gifts [] r = tt
  no_gifts (t ∷ ts) r = let q = both_hold (is_refusal t.1) (refusing ts) r in (no_gift t.1 q.0, no_gifts ts q.1)

  module _ (ts : List (Bool × Said A)) (r : T (refusing ts)) (e : first ts (gives a) ≡ gives x) where
    pub passed : (k : ℕ) → ok_at k ts ≡ true
    passed = each ts (pass (gives x) ts (gives a) (no_gifts ts r) e).0

    pub given : a ≡ x
    given = let q = (pass (gives x) ts (gives a) (no_gifts ts r) e).1 in cc

-- ---- what holds of the answer and of every refusal holds of what is said

module _ {A : Type 0} (P : Said A → Type 0) where
  abbrev pub Each : List (Bool × Said A) → Type 0
  Each [] = Unit {0}
  Each (t ∷ ts) = P t.1 × Each ts

  cond_holds : (b : Bool) (x y : Said A) → P x → P y → P (cond b x y)
  cond_holds true x y p q = p
  cond_holds false x y p q = q

  pub first_holds : (ts : List (Bool × Said A)) (a : Said A) → Each ts → P a → P (first ts a)
  first_holds [] a p q = q
  first_holds (t ∷ ts) a p q = cond_holds t.0 (first ts a) t.1 (first_holds ts a p.1 q) p.0

-- ---- refusals that have document 01's numbers

module _ {A : Type 0} where
  abbrev pub AllNumbered : List (Bool × Said A) → Type 0
  AllNumbered ts = Each Numbered ts

  pub cond_numbered : (b : Bool) (x y : Said A) → Numbered x → Numbered y → Numbered (cond b x y)
  cond_numbered = cond_holds Numbered

  pub first_numbered : (ts : List (Bool × Said A)) (a : Said A) → AllNumbered ts → Numbered a → Numbered (first ts a)
  first_numbered = first_holds Numbered

  pub append_numbered : (ts us : List (Bool × Said A)) → AllNumbered ts → AllNumbered us → AllNumbered (ts ++ us)
  append_numbered [] us p q = q
  append_numbered (t ∷ ts) us p q = (p.0, append_numbered ts us p.1 q)

pub fields_numbered : (A : Type 0) (w n at : ℕ) (s : List ℕ) → AllNumbered (fields_from {A = Said A} w n at s short)
fields_numbered A w zero at s = tt
fields_numbered A w (suc n) at s = (omega arith, fields_numbered A w n (at + w) s)

-- ---- rules have numbers, and no fault is 0

abbrev pub numbered : List (Bool × ℕ) → Bool
numbered [] = true
numbered (t ∷ ts) = leb 1 t.1 && numbered ts

no_zero : (r : ℕ) → T (leb 1 r) → r ≡ 0 → ⊥
no_zero zero t e = t
no_zero (suc r) t e = omega arith

no_zeros : (ts : List (Bool × ℕ)) → T (numbered ts) → Refuse 0 ts
no_zeros [] n = tt
no_zeros (t ∷ ts) n = let q = both_hold (leb 1 t.1) (numbered ts) n in (no_zero t.1 q.0, no_zeros ts q.1)

module _ (ts : List (Bool × ℕ)) (n : T (numbered ts)) (e : first ts 0 ≡ 0) where
  met : Pass ts
  met = (pass 0 ts 0 (no_zeros ts n) e).0

  pub no_fault : (k : ℕ) → ok_at k ts ≡ true
  no_fault = each ts met

  pub no_fault_then : (us : List (Bool × ℕ)) → first (ts ++ us) 0 ≡ first us 0
  no_fault_then us = first-append ts us 0 ∙ all_pass ts (first us 0) met

-- a fault of the first of them is one of all
pub fault-first : (ts us : List (Bool × ℕ)) (r : ℕ) → first ts 0 ≡ r → (r ≡ 0 → ⊥) → first (ts ++ us) 0 ≡ r
fault-first [] us r e n = absurd (n (sym e))
fault-first (t ∷ ts) us r e n = go t.0 e (λ q. fault-first ts us r q n)
  where
    go : (b : Bool) → cond b (first ts 0) t.1 ≡ r → (first ts 0 ≡ r → first (ts ++ us) 0 ≡ r) → cond b (first (ts ++ us) 0) t.1 ≡ r
    go true e f = f e
    go false e f = e
