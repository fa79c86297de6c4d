-- A record without fault, by what its rules say.
use mathlib.Core.Path.{◌≡◌, refl}
use mathlib.Core.Bool.{Bool, true, false, cond, ◌&&◌, ◌||◌, or-true}
use mathlib.Core.List.{List, ◌++◌}
use Prim.Native.Nat.{ℕ, ◌+◌, ◌*◌, ◌≤◌}
use native.Mathlib.Omega.{arith}
use lib.Dec.{leb, eqb}
use lib.ListN.{length}
use borrow.Author.Tests.{le-leb, leb-true, lt-ltb, ltb-true, eq-eqb, eqb-true}
use Rattle.format.specs.Encoding.{Held}
use Rattle.format.proofs.OrderLaws.{both_true, ◌then◌, all_pass, no_fault}
use Rattle.rules.specs.Rules.{Taken, null_taken, big_at, little_at, held, words_of, parts_of, points_of, head_rules, own_taken, content_rules, record_fault, P12, P13, P14, P15, P16}

-- what the record's content has to meet
pub record Met (t : Taken) (l : List ℕ) : Type 0 where
  pub within : 8 + 2 * words_of l ≤ length l
  pub p13 : P13 t l ≡ true
  pub p14 : P14 t l ≡ true
  pub p15 : P15 t l ≡ true
  pub p16 : P16 t l ≡ true

-- the record of number k at `at`, of which l is what begins with it and x what begins with its entry; t is its own kind
pub record Fine (t : Taken) (l x : List ℕ) (at k : ℕ) : Type 0 where
  pub header : 8 ≤ length l
  pub number : big_at 0 l ≡ k
  pub number_held : Held k
  pub words-held : Held (words_of l)
  pub words-two : 2 ≤ words_of l
  pub entry : 8 ≤ length x
  pub offset-held : Held (big_at 0 x)
  pub offset : 2 * big_at 0 x ≡ at
  pub extent : big_at 4 x ≡ words_of l
  pub code : little_at 8 l ≡ t.kind.code
  pub parts_held : Held (parts_of t.form l)
  pub points_held : Held (points_of t.form l)
  pub met : Met t l

-- P12 says that the field has the own kind's code
module _ (t : Taken) (l : List ℕ) where
  own_code : P12 t.kind l ≡ true → little_at 8 l ≡ (own_taken t l).kind.code
  own_code e = go (eqb (little_at 8 l) t.kind.code) (eqb (little_at 8 l) 0) refl refl e
    where
      go : (a b : Bool) → eqb (little_at 8 l) t.kind.code ≡ a → eqb (little_at 8 l) 0 ≡ b → (a || b) ≡ true → little_at 8 l ≡ (cond b null_taken t).kind.code
      go a true p q e = eqb-true _ _ q
      go true false p q e = eqb-true _ _ p
      go false false p q e = absurd (let z : ◌≡◌ {A = ℕ} 0 1 = cc in omega arith)

  code_own : little_at 8 l ≡ (own_taken t l).kind.code → P12 t.kind l ≡ true
  code_own e = go (eqb (little_at 8 l) 0) refl e
    where
      go : (b : Bool) → eqb (little_at 8 l) 0 ≡ b → little_at 8 l ≡ (cond b null_taken t).kind.code → (eqb (little_at 8 l) t.kind.code || b) ≡ true
      go true q e = or-true (eqb (little_at 8 l) t.kind.code)
      go false q e = rw (eq-eqb _ _ e)

module _ (t : Taken) (l x : List ℕ) (at k : ℕ) where
  abbrev own : Taken
  own = own_taken t l

  pub fine : record_fault t l x at k ≡ 0 → Fine own l x at k
  unfolding record_fault
  fine e =
      let p = no_fault (head_rules t.kind l x at k ++ content_rules own l) tt e in
      let p9 = both_true (leb 8 (length l) && eqb (big_at 0 l) k) (held k) (p 0) in
      let p9' = both_true (leb 8 (length l)) (eqb (big_at 0 l) k) p9.0 in
      let p10 = both_true (held (words_of l) && leb 2 (words_of l)) (leb (8 + 2 * words_of l) (length l)) (p 1) in
      let p10' = both_true (held (words_of l)) (leb 2 (words_of l)) p10.0 in
      let p11 = both_true (leb 8 (length x) && held (big_at 0 x) && eqb (2 * big_at 0 x) at) (eqb (big_at 4 x) (words_of l)) (p 2) in
      let p11' = both_true (leb 8 (length x) && held (big_at 0 x)) (eqb (2 * big_at 0 x) at) p11.0 in
      let p11'' = both_true (leb 8 (length x)) (held (big_at 0 x)) p11'.0 in
      let p13 = both_true (held (parts_of own.form l) && held (points_of own.form l)) _ (p 4) in
      let p13' = both_true (held (parts_of own.form l)) (held (points_of own.form l)) p13.0 in
      record {
        header = leb-true _ _ p9'.0;
        number = eqb-true _ _ p9'.1;
        number_held = ltb-true _ _ p9.1;
        words-held = ltb-true _ _ p10'.0;
        words-two = leb-true _ _ p10'.1;
        entry = leb-true _ _ p11''.0;
        offset-held = ltb-true _ _ p11''.1;
        offset = eqb-true _ _ p11'.1;
        extent = eqb-true _ _ p11.1;
        code = own_code t l (p 3);
        parts_held = ltb-true _ _ p13'.0;
        points_held = ltb-true _ _ p13'.1;
        met =
            record {
              within = leb-true _ _ p10.1;
              p13 = p 4;
              p14 = p 5;
              p15 = p 6;
              p16 = p 7;
            };
      }

  pub faultless : Fine own l x at k → record_fault t l x at k ≡ 0
  unfolding record_fault
  faultless f =
      all_pass (head_rules t.kind l x at k ++ content_rules own l) 0
      ((rw (le-leb _ _ f.header, eq-eqb _ _ f.number, lt-ltb _ _ f.number_held))
      then (rw (lt-ltb _ _ f.words-held, le-leb _ _ f.words-two, le-leb _ _ f.met.within))
      then (rw (le-leb _ _ f.entry, lt-ltb _ _ f.offset-held, eq-eqb _ _ f.offset, eq-eqb _ _ f.extent))
      then code_own t l f.code
      then f.met.p13
      then f.met.p14
      then f.met.p15
      then f.met.p16
      then tt)
