-- Laws of what is stored: one field after the other from the front on, and the tail of an output that was lent on.
use mathlib.Core.Path.{◌≡◌, refl, sym, ap, ◌∙◌}
use mathlib.Core.List.{List, [], ◌∷◌, ◌++◌, append-nil}
use Prim.Native.Nat.{ℕ, zero, suc, ◌+◌, ◌*◌, ◌-◌}
use native.Mathlib.Nat.{le_of_eq}
use native.Mathlib.Omega.{arith}
use lib.Ieee.{Float}
use lib.IntN.{ℤ}
use lib.ListN.{length, take, drop, set, length-drop}
use lib.Seq.{sets, take_all, drop-length}
use mir.Syntax.{w32}
use mir.Val.{SFits, to_z, of_z}
use mir.ValLaws.{to_z-of_z}
use borrow.Rule.Slice.PartMut.{mid_of, put_mid}
use Rattle.format.specs.Encoding.{two_big}
use Rattle.format.specs.Numbers.{i32_be, little, f64s_le}
use Rattle.format.proofs.LayoutLaws.{onto}
use Rattle.format.proofs.NumberLaws.{length-little, length_two, length-f64s_le, two-stored}

-- ---- a tail

sets-nil : (vs : List ℕ) (i : ℕ) → sets [] i vs ≡ []
sets-nil [] i = refl
sets-nil (v ∷ vs) i = sets-nil vs (suc i)

sets-cons : (vs l : List ℕ) (x i : ℕ) → sets (x ∷ l) (suc i) vs ≡ x ∷ sets l i vs
sets-cons [] l x i = refl
sets-cons (v ∷ vs) l x i = sets-cons vs (set l i v) x (suc i)

sets_tail : (a : ℕ) (xs vs : List ℕ) → take a xs ++ sets (drop a xs) 0 vs ≡ sets xs a vs
sets_tail zero xs vs = refl
sets_tail (suc a) [] vs = sets-nil vs 0 ∙ sym (sets-nil vs (suc a))
sets_tail (suc a) (x ∷ xs) vs = ap (◌∷◌ x) (sets_tail a xs vs) ∙ sym (sets-cons vs xs x a)

tail_mid : (a : ℕ) (xs : List ℕ) → mid_of a (length xs - a) xs ≡ drop a xs
tail_mid a xs = take_all (length xs - a) (drop a xs) (le_of_eq (length-drop a xs))

pub tail_length : (a : ℕ) (xs : List ℕ) → length (mid_of a (length xs - a) xs) ≡ length xs - a
tail_length a xs = ap length (tail_mid a xs) ∙ length-drop a xs

put_tail : (a : ℕ) (xs ys : List ℕ) → put_mid a (length xs - a) xs ys ≡ take a xs ++ ys
put_tail a xs ys =
    ap (λ (l : List ℕ). take a xs ++ (ys ++ l)) (rw (← length-drop a xs, drop-length (drop a xs)))
    ∙ ap (λ (l : List ℕ). take a xs ++ l) (append-nil ys)

-- what was stored at the front of the tail from a on stands in the whole at a
pub tail_stored : (a : ℕ) (xs ys vs : List ℕ) → ys ≡ sets (mid_of a (length xs - a) xs) 0 vs → put_mid a (length xs - a) xs ys ≡ sets xs a vs
tail_stored a xs ys vs h =
    put_tail a xs ys
    ∙ (ap (λ (l : List ℕ). take a xs ++ l) (h ∙ ap (λ (l : List ℕ). sets l 0 vs) (tail_mid a xs))
    ∙ sets_tail a xs vs)

-- ---- fields in turn

-- two numbers, the high byte first, as they come out of the locals that held them
pub two_put : (out l m : List ℕ) (a b : ℤ) → SFits w32 a → SFits w32 b → l ≡ sets out 0 (i32_be (to_z w32 (of_z w32 a))) → m ≡ sets l 4 (i32_be (to_z w32 (of_z w32 b))) → m ≡ sets out 0 (two_big (of_z w32 a) (of_z w32 b))
two_put out l m a b f g p q = two-stored out l m a b (rw (to_z-of_z w32 a f) at p) (rw (to_z-of_z w32 b g) at q)

pub point-stored : (out l1 l2 l3 l4 : List ℕ) (xs ys zs ms : List Float) → length xs ≡ 1 → length ys ≡ 1 → l1 ≡ sets out 0 (f64s_le xs) → l2 ≡ sets l1 8 (f64s_le ys) → l3 ≡ sets l2 16 (f64s_le zs) → l4 ≡ sets l3 (16 + 8 * length zs) (f64s_le ms) → l4 ≡ sets out 0 (f64s_le xs ++ (f64s_le ys ++ (f64s_le zs ++ f64s_le ms)))
point-stored out l1 l2 l3 l4 xs ys zs ms x y e1 e2 e3 e4 =
    onto out l1 l4 (f64s_le xs) _ 0 8 (omega (arith, length-f64s_le xs)) e1
    (onto l1 l2 l4 (f64s_le ys) _ 8 16 (omega (arith, length-f64s_le ys)) e2
    (onto l2 l3 l4 (f64s_le zs) _ 16 (16 + 8 * length zs) (omega (arith, length-f64s_le zs)) e3 e4))

pub record_stored : (out l m r : List ℕ) (a b c : ℕ) (body : List ℕ) → l ≡ sets out 0 (two_big a b) → m ≡ sets l 8 (little c) → r ≡ sets m 12 body → r ≡ sets out 0 (two_big a b ++ (little c ++ body))
record_stored out l m r a b c body e f g =
    onto out l r (two_big a b) (little c ++ body) 0 8 (omega (arith, length_two a b)) e
    (onto l m r (little c) body 8 12 (omega (arith, length-little c)) f g)
