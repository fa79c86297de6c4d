-- Laws of a writer's state: its numbers without their signs, the tests of the state by them, and what holds of a state that passes.
use mathlib.Core.Path.{◌≡◌, refl, sym, ap, ◌∙◌, subst}
use mathlib.Core.Bool.{Bool, true, false, ◌&&◌, ◌||◌, not}
use mathlib.Core.Option.{Option, none, some}
use Prim.Native.Nat.{ℕ, ◌+◌, ◌*◌, ◌-◌, ◌^◌, ◌≤◌, ◌<◌}
use native.Mathlib.Omega.{arith}
use lib.Dec.{T, leb, eqb}
use lib.IntN.{ℤ, pos, negsuc, nat_abs}
use lib.Signed.{mag}
use borrow.Author.Tests.{leb-true, eqb-true}
use Rattle.format.specs.declared.kinds.Kind.{Kind}
use Rattle.format.specs.declared.lengths.Formula.{Formula}
use Rattle.format.specs.Kinds.{known, kind_at}
use Rattle.format.specs.Lengths.{form_at}
use Rattle.format.specs.Shapes.{there}
use Rattle.format.proofs.KindLaws.{code_is, known-there}
use Rattle.format.proofs.LengthLaws.{null_row, null-form}
use Rattle.format.proofs.OrderLaws.{both_true}
use Rattle.writer.specs.declared.State.{State}
use Rattle.std.specs.Prelude.{Ok, Err}
use Rattle.format.specs.declared.lengths.KindError.{KindError}
use Rattle.writer.specs.Judging.{natural_of, by_kind, look_up, counts_fine}
use Rattle.writer.specs.State.{fresh, at_least, is_zero, state_fine}
use Rattle.writer.proofs.KindLaws.{is_taken, taken_is, looked_kind}

-- ---- the tests of a state, by its numbers

regroup : (a b d e g : Bool) → a && b && true && d && e && g ≡ a && (b && (d && (e && g)))
regroup true true true e g = refl
regroup true true false e g = refl
regroup true false d e g = refl
regroup false b d e g = refl

ends : (a b d e g : Bool) → a && b && false && d && e && g ≡ false
ends true true d e g = refl
ends true false d e g = refl
ends false b d e g = refl

-- a number below 0 fails the first test that asks for it, and so does the 0 in its place
pub fine_by : (w n : ℤ) (points : ℕ) (z : Bool)
    → at_least 50 w && at_least 1 n && true && leb (50 + 6 * (nat_abs n - 1)) (nat_abs w) && leb points (nat_abs w) && (not z || (eqb (nat_abs w) 50 && eqb (nat_abs n) 1)) ≡ counts_fine (natural_of w) (natural_of n) points z
fine_by (pos w) (pos n) points z = regroup (leb 50 w) (leb 1 n) (leb (50 + 6 * (n - 1)) w) (leb points w) (not z || (eqb w 50 && eqb n 1))
fine_by (pos w) (negsuc n) points z = regroup (leb 50 w) false _ _ _
fine_by (negsuc w) n points z = refl

module _ (s : State) where
  pub fine-taken : (p : Kind × Formula) → look_up s.kind ≡ Ok p → counts_fine (natural_of s.words.0) (natural_of s.number) s.points (eqb p.0.code 0) ≡ state_fine s
  unfolding state_fine
  fine-taken p e =
      let t : there (form_at s.kind) ≡ true = taken_is s.kind ∙ ap is_taken e in
      let z : is_zero s.kind ≡ eqb p.0.code 0 = ap is_zero (code_is s.kind p.0 (looked_kind s.kind p e)) in
      rw (t, z) (sym (fine_by s.words.0 s.number s.points (eqb p.0.code 0)))

  pub fine_no : (x : KindError) → look_up s.kind ≡ Err x → false ≡ state_fine s
  unfolding state_fine
  fine_no x e =
      let t : there (form_at s.kind) ≡ false = taken_is s.kind ∙ ap is_taken e in
      rw t (sym (ends (at_least 50 s.words.0) (at_least 1 s.number) _ _ _))

-- the fresh one is a writer state: 0 is a taken kind
pub fresh-fine : state_fine fresh ≡ true
unfolding state_fine
fresh-fine = rw (null_row, null-form)

-- ---- what holds of a writer state

is_pos : (n : ℕ) (z : ℤ) → at_least n z ≡ true → (z ≡ pos (nat_abs z)) × (n ≤ nat_abs z)
is_pos n (pos m) e = (refl, leb-true n m e)
is_pos n (negsuc m) e = absurd (subst T (sym e) tt)

kind_pos : (z : ℤ) → there (form_at z) ≡ true → z ≡ pos (nat_abs z)
kind_pos (pos n) e = refl
kind_pos (negsuc n) e = absurd (subst T (sym e) tt)

some_kind : (z : ℤ) (o : Option Kind) → is_taken (by_kind z o) ≡ true → there o ≡ true
some_kind z none e = e
some_kind z (some k) e = refl

at_first : (z : Bool) (w n : ℕ) → not z || (eqb w 50 && eqb n 1) ≡ true → z ≡ true → n ≡ 1
at_first true w n e h = eqb-true n 1 (both_true (eqb w 50) (eqb n 1) e).1
at_first false w n e h = absurd (subst T (sym h) tt)

pub record Fine (s : State) : Type 0 where
  pub words-is : s.words.0 ≡ pos (nat_abs s.words.0)
  pub number_is : s.number ≡ pos (nat_abs s.number)
  pub number-least : 1 ≤ nat_abs s.number
  pub room : 50 + 6 * (nat_abs s.number - 1) ≤ nat_abs s.words.0
  pub kind_is : s.kind ≡ pos (nat_abs s.kind)
  pub kind-known : known (pos (nat_abs s.kind)) ≡ true
  pub kind-taken : there (form_at s.kind) ≡ true
  pub points-room : s.points ≤ nat_abs s.words.0
  pub at_start : is_zero s.kind ≡ true → nat_abs s.number ≡ 1

pub fine : (s : State) → state_fine s ≡ true → Fine s
unfolding state_fine look_up
fine s e =
    let p5 = both_true _ _ e in
    let p4 = both_true _ _ p5.0 in
    let p3 = both_true _ _ p4.0 in
    let p2 = both_true _ _ p3.0 in
    let p1 = both_true _ _ p2.0 in
    let w = is_pos 50 s.words.0 p1.0 in
    let n = is_pos 1 s.number p1.1 in
    let k = kind_pos s.kind p2.1 in
    record {
      words-is = w.0;
      number_is = n.0;
      number-least = n.1;
      room = leb-true _ _ p3.1;
      kind_is = k;
      kind-known = sym (ap known k) ∙ (known-there s.kind ∙ some_kind s.kind (kind_at s.kind) (sym (taken_is s.kind) ∙ p2.1));
      kind-taken = p2.1;
      points-room = leb-true _ _ p4.1;
      at_start = at_first (is_zero s.kind) (nat_abs s.words.0) (nat_abs s.number) p5.1;
    }

-- its numbers without their signs, and the words of its index
module _ (s : State) (f : Fine s) where
  pub number_natural : natural_of s.number ≡ nat_abs s.number
  number_natural = ap natural_of f.number_is

  pub words_natural : natural_of s.words.0 ≡ nat_abs s.words.0
  words_natural = ap natural_of f.words-is

  pub index_lt : mag s.words.0 < 2 ^ 31 → (1 ≤ natural_of s.number) × (50 + 4 * (natural_of s.number - 1) < 2 ^ 31)
  index_lt h =
      let w : nat_abs s.words.0 < 2 ^ 31 = subst (λ (z : ℤ). mag z < 2 ^ 31) f.words-is h in
      rw number_natural (f.number-least, omega (arith, f.room))
