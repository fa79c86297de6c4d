-- The end of a walk and the verdict, by what they say: a yes, or a fault and where.
use mathlib.Core.Path.{◌≡◌, refl}
use mathlib.Core.List.{List, [], ◌∷◌}
use mathlib.Core.Logic.{◌⊎◌, inl, inr}
use mathlib.Core.Option.{some}
use Prim.Native.Nat.{ℕ, zero, suc, ◌+◌, ◌<◌}
use native.Mathlib.Omega.{arith}
use lib.ListN.{length, drop}
use Rattle.format.specs.Said.{Said, gives, fault}
use Rattle.rules.specs.Rules.{Taken, Counts, taken_in, headers_fault, finish, or_on, walk_from, none_yet, records_verdict, verdict}

-- ---- a rule, or what comes behind it

pub on_gives : (r k : ℕ) (v : Said Counts) (c : Counts) → or_on r k v ≡ gives c → (r ≡ 0) × (v ≡ gives c)
on_gives zero k v c e = (refl, e)
on_gives (suc r) k v c e = absurd (let z : ◌≡◌ {A = ℕ} 0 1 = cc in omega arith)

pub on_fault : (f k : ℕ) (v : Said Counts) (r n : ℕ) → or_on f k v ≡ fault r n → ((0 < f) × (f ≡ r) × (k ≡ n)) ⊎ ((f ≡ 0) × (v ≡ fault r n))
on_fault zero k v r n e = inr (refl, e)
on_fault (suc f) k v r n e = inl (omega arith, (cc), (cc))

pub fault_on : (f k : ℕ) (v : Said Counts) → 0 < f → or_on f k v ≡ fault f k
fault_on zero k v h = absurd (omega arith)
fault_on (suc f) k v h = refl

-- ---- the end of a walk

pub finish-gives : (c : Counts) → finish [] c ≡ gives c
unfolding finish
finish-gives c = refl

pub finished : (x : List ℕ) (c d : Counts) → finish x c ≡ gives d → (x ≡ []) × (c ≡ d)
unfolding finish
finished [] c d e = (refl, (cc))
finished (a ∷ x) c d e = absurd (let z : ◌≡◌ {A = ℕ} 0 1 = cc in omega arith)

pub left_over : (x : List ℕ) (c : Counts) (r n : ℕ) → finish x c ≡ fault r n → (0 < length x) × (17 ≡ r) × (c.records + 1 ≡ n)
unfolding finish
left_over [] c r n e = absurd (let z : ◌≡◌ {A = ℕ} 0 1 = cc in omega arith)
left_over (a ∷ x) c r n e = (omega arith, (cc), (cc))

pub over_left : (x : List ℕ) (c : Counts) → 0 < length x → finish x c ≡ fault 17 (c.records + 1)
unfolding finish
over_left [] c h = absurd (omega arith)
over_left (a ∷ x) c h = refl

-- ---- the verdict

module _ (shp shx : List ℕ) where
  pub verdict-is : verdict shp shx ≡ or_on (headers_fault shp shx) 0 (records_verdict (taken_in shp) shp shx)
  unfolding verdict
  verdict-is = refl

  pub verdict-walk : (t : Taken) → headers_fault shp shx ≡ 0 → taken_in shp ≡ some t → verdict shp shx ≡ walk_from t (drop 100 shp) (drop 100 shx) 100 none_yet
  unfolding verdict
  verdict-walk t h n = rw (h, n)
