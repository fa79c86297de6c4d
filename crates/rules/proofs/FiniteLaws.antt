-- Doubles that are finite: P16 of the bytes, said of the numbers that stand there; and where the points stand, which P15 reads too.
use mathlib.Core.Path.{◌≡◌, refl, ◌∙◌}
use mathlib.Core.Bool.{true, cond, ◌&&◌}
use mathlib.Core.List.{List, ◌∷◌}
use Prim.Native.Nat.{ℕ, zero, suc, ◌+◌, ◌*◌, ◌-◌, ◌/◌, ◌≤◌}
use native.Mathlib.Omega.{arith}
use lib.ListN.{length}
use Rattle.format.specs.Bytes.{le, field}
use Rattle.format.specs.Lengths.{Form, front_words}
use Rattle.format.specs.Numbers.{finite}
use Rattle.format.specs.WellFormed.{has_rings, AllFinite}
use Rattle.format.proofs.ByteLaws.{AllBytes, le_field_lt}
use Rattle.format.proofs.OrderLaws.{both_true}
use Rattle.format.proofs.Runs.{numbers, numbers-zero, numbers-suc}
use Rattle.rules.specs.Rules.{Taken, little_at, words_of, parts_of, finites, rings_closed, pairs_at, box_doubles, P15, P16}

pub finites_true : (n at : ℕ) (s : List ℕ) → AllFinite (numbers 8 n at s) → finites n at s ≡ true
unfolding finites
finites_true zero at s f = refl
finites_true (suc n) at s f =
    let g : AllFinite (le (field 8 at s) ∷ numbers 8 n (at + 8) s) = rw (numbers-suc 8 n at s) at f in
    rw g.0.finite (finites_true n (at + 8) s g.1)

pub finites_all : (n at : ℕ) (s : List ℕ) → AllBytes s → at + 8 * n ≤ length s → finites n at s ≡ true → AllFinite (numbers 8 n at s)
unfolding finites
finites_all zero at s b h e = rw (numbers-zero 8 at s) tt
finites_all (suc n) at s b h e =
    let p = both_true (finite (le (field 8 at s))) (finites n (at + 8) s) e in
    rw (numbers-suc 8 n at s) (record { bits = le_field_lt 8 at s b (omega arith); finite = p.0 }, finites_all n (at + 8) s b (omega arith) p.1)

pub finites-none : (at : ℕ) (s : List ℕ) → finites 0 at s ≡ true
unfolding finites
finites-none at s = refl

-- where the points stand
pub pairs-at : (form : Form) (l : List ℕ) → pairs_at form l ≡ 8 + 2 * front_words form (parts_of form l)
unfolding pairs_at
pairs-at form l = refl

-- the rules that read them, with so many words in front of them
module _ (t : Taken) (l : List ℕ) (front : ℕ) (f : front_words t.form (parts_of t.form l) ≡ front) where
  pub at15 : P15 t l ≡ cond (has_rings t.kind) (rings_closed (8 + 2 * front) (little_at 44 l) 56 0 (little_at 48 l) l) true
  unfolding pairs_at
  at15 = rw f

  pub at16 : P16 t l ≡ (finites (box_doubles t.form) 12 l && finites ((words_of l - front) / 4) (8 + 2 * front) l)
  unfolding pairs_at
  at16 = rw f

  -- where the words leave so many doubles
  pub rule16 : (count : ℕ) → words_of l ≡ front + 4 * count → P16 t l ≡ (finites (box_doubles t.form) 12 l && finites count (8 + 2 * front) l)
  rule16 count w = let e : (words_of l - front) / 4 ≡ count = omega arith in at16 ∙ rw e
