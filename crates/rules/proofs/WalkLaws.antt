-- The walk over the records, a record at a time, with no fuel.
use mathlib.Core.Path.{◌≡◌, refl, ap, ◌∙◌}
use mathlib.Core.List.{List, [], ◌∷◌}
use Prim.Native.Nat.{ℕ, zero, suc, ◌+◌, ◌≤◌, ◌<◌}
use native.Mathlib.Nat.{le_refl}
use native.Mathlib.Omega.{arith}
use lib.ListN.{length, drop, length-drop, drop_of_length-le}
use Rattle.format.specs.Said.{gives, fault}
use Rattle.rules.specs.Rules.{Taken, Counts, own_taken, parts_of, points_of, record_fault, finish, or_on, size, walk, walk_from}
use Rattle.rules.proofs.VerdictLaws.{fault_on, finish-gives, over_left}

-- the counts behind one more record
abbrev pub next : Taken → List ℕ → Counts → Counts
next t l c = record { records = c.records + 1; parts = c.parts + parts_of (own_taken t l).form l; points = c.points + points_of (own_taken t l).form l }

-- a walk is the same with any fuel that is enough
same : (f g : ℕ) (t : Taken) (l x : List ℕ) (at : ℕ) (c : Counts) → length l ≤ f → length l ≤ g → walk f t l x at c ≡ walk g t l x at c
unfolding walk
same zero zero t l x at c h h' = refl
same zero (suc g) t [] x at c h h' = refl
same zero (suc g) t (b ∷ l) x at c h h' = absurd (omega arith)
same (suc f) zero t [] x at c h h' = refl
same (suc f) zero t (b ∷ l) x at c h h' = absurd (omega arith)
same (suc f) (suc g) t [] x at c h h' = refl
same (suc f) (suc g) t (b ∷ l) x at c h h' =
    ap (or_on (record_fault t (b ∷ l) x at (c.records + 1)) (c.records + 1))
    (same f g t (drop (size (b ∷ l)) (b ∷ l)) (drop 8 x) (at + size (b ∷ l)) (next t (b ∷ l) c) (rw length-drop (omega arith)) (rw length-drop (omega arith)))

pub walk_end : (t : Taken) (x : List ℕ) (at : ℕ) (c : Counts) → walk_from t [] x at c ≡ finish x c
unfolding walk_from walk
walk_end t x at c = refl

pub walk_record : (t : Taken) (l x : List ℕ) (at : ℕ) (c : Counts) → 0 < length l
    → walk_from t l x at c ≡ or_on (record_fault t l x at (c.records + 1)) (c.records + 1) (walk_from t (drop (size l) l) (drop 8 x) (at + size l) (next t l c))
unfolding walk_from walk
walk_record t [] x at c h = absurd (omega arith)
walk_record t (b ∷ l) x at c h =
    ap (or_on (record_fault t (b ∷ l) x at (c.records + 1)) (c.records + 1))
    (same (length l) (length (drop (size (b ∷ l)) (b ∷ l))) t (drop (size (b ∷ l)) (b ∷ l)) (drop 8 x) (at + size (b ∷ l)) (next t (b ∷ l) c)
    (rw length-drop (omega arith)) (le_refl _))

-- ---- the verdict of a walk from a place on

-- at the end of the .shp
module _ (t : Taken) (s x : List ℕ) (at ix : ℕ) (c : Counts) (done : length s ≤ at) where
  pub left_over : ix < length x → walk_from t (drop at s) (drop ix x) at c ≡ fault 17 (c.records + 1)
  left_over h = rw (drop_of_length-le s done) (walk_end t (drop ix x) at c ∙ over_left (drop ix x) c (rw length-drop (omega arith)))

  pub all_behind : length x ≤ ix → walk_from t (drop at s) (drop ix x) at c ≡ gives c
  all_behind h = rw (drop_of_length-le s done, drop_of_length-le x h) (walk_end t [] at c ∙ finish-gives c)

-- at a record
module _ (t : Taken) (l x : List ℕ) (at : ℕ) (c : Counts) (h : 0 < length l) where
  pub broken : (r : ℕ) → (r ≡ 0 → ⊥) → record_fault t l x at (c.records + 1) ≡ r → walk_from t l x at c ≡ fault r (c.records + 1)
  broken r n e = walk_record t l x at c h ∙ rw e (fault_on r (c.records + 1) _ (omega (arith, n)))

  pub met_all : record_fault t l x at (c.records + 1) ≡ 0 → walk_from t l x at c ≡ walk_from t (drop (size l) l) (drop 8 x) (at + size l) (next t l c)
  met_all e = walk_record t l x at c h ∙ rw e refl
