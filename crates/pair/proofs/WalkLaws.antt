-- The verdict from a record on, in the terms of the code that walks: what each break answers, and that the next record takes over.
use mathlib.Core.Path.{◌≡◌, refl, sym, ap, ap₂, ◌∙◌}
use mathlib.Core.Bool.{Bool, true, false, cond, ◌&&◌}
use mathlib.Core.List.{List}
use Prim.Native.Nat.{ℕ, zero-le, ◌+◌, ◌*◌, ◌-◌, ◌/◌, ◌^◌, ◌≤◌, ◌<◌}
use native.Mathlib.Nat.{le_refl}
use native.Mathlib.Omega.{arith}
use lib.Dec.{lit≤}
use lib.ListN.{length, drop}
use Rattle.std.specs.Prelude.{Err}
use Rattle.format.specs.declared.kinds.Kind.{Kind}
use Rattle.format.specs.Lengths.{several, front_words}
use Rattle.format.specs.Order.{first}
use Rattle.format.specs.Said.{Said, fault}
use Rattle.format.specs.WellFormed.{has_rings, least_points}
use Rattle.format.proofs.Equations.{least-is}
use Rattle.rules.specs.Rules.{Taken, Counts, big_at, little_at, words_of, parts_of, points_of, finites, parts_long, rings_closed, P13, P14, P15, P16, content_rules, record_fault, walk_from}
use Rattle.rules.proofs.Turns.{parts_done}
use Rattle.rules.proofs.WalkLaws.{broken, met_all}
use Rattle.pair.specs.declared.Fault.{Fault}
use Rattle.pair.specs.declared.plans.Plan.{Plan}
use Rattle.pair.specs.Plans.{field_words, has_parts, points_alone, taken_from}
use Rattle.pair.specs.Verdicts.{head_fault, found}
use Rattle.pair.proofs.FoundLaws.{found_fault}
use Rattle.pair.proofs.PlanLaws.{Owned, front_of, front-of}
use Rattle.pair.proofs.RecordLaws.{by_head, by_content}
use Rattle.pair.proofs.ShapeLaws.{head_told, several-room, parts-of, points-of, front_more, at_most_one, parts-several, begins_of, shape14, shape15, shape16}

abbrev pub counts : ℕ → ℕ → ℕ → Counts
counts k ps ns = record { records = k; parts = ps; points = ns }

-- what holds at each record: the verdict from here on is the whole walk's, v
pub record Walked (plan : Plan) (s x : List ℕ) (at ix k ps ns : ℕ) (v : Said Counts) : Type 0 where
  pub low : at ≤ length s
  pub xlow : ix ≤ length x
  pub few : k ≤ at
  pub few_parts : ps ≤ at
  pub few_points : ns ≤ at
  pub rest : walk_from (taken_from plan) (drop at s) (drop ix x) at (counts k ps ns) ≡ v

-- a record whose head breaks a rule
pub no_head : (t : Taken) (l x : List ℕ) (at k ps ns : ℕ) (f : Fault)
    → 0 < length l
    → Err f ≡ found (field_words (big_at 4 l)) (head_fault t.kind l x at (k + 1)) (k + 1)
    → walk_from t l x at (counts k ps ns) ≡ fault f.rule f.record
no_head t l x at k ps ns f h e =
    let q = found_fault _ _ _ f e in
    rw q.1 (broken t l x at (counts k ps ns) h f.rule q.2 (by_head t l x at (k + 1) f.rule q.0 q.2))

-- ---- a record whose head has no fault, and the plan of its own kind

pub record Open (plan own : Plan) (l x : List ℕ) (at k : ℕ) : Type 0 where
  pub inside : 0 < length l
  pub hd : 0 ≡ head_fault plan.kind l x at (k + 1)
  pub owned : Owned plan own l

-- there it has a content of so many words, and an entry
pub record Within (l x : List ℕ) : Type 0 where
  pub held : big_at 4 l < 2 ^ 31
  pub some : 2 ≤ big_at 4 l
  pub within : 8 + 2 * big_at 4 l ≤ length l
  pub entry : 8 ≤ length x

pub within : (h : Kind) (l x : List ℕ) (at k : ℕ) → 0 ≡ head_fault h l x at k → Within l x
within h l x at k e =
    let t = head_told h l x at k (sym e) in
    record { held = t.inside.held; some = t.inside.some; within = t.inside.within; entry = t.entry }

module _ {plan own : Plan} {l x : List ℕ} {at k : ℕ} (o : Open plan own l x at k) where
  abbrev kind_of : Taken
  kind_of = taken_from own

  has-parts : own.parts ≡ has_parts kind_of.form
  has-parts = ap (λ (p : Plan). p.parts) o.owned.is

  has-several : own.several ≡ several kind_of.form
  has-several = ap (λ (p : Plan). p.several) o.owned.is

  front-is : own.front ≡ front_words kind_of.form 0
  front-is = ap (λ (p : Plan). p.front) o.owned.is

  -- which its flags tell
  pub front_flags : own.front ≡ front_of own.parts own.several
  front_flags = front-is ∙ sym (ap₂ front_of has-parts has-several ∙ front-of kind_of.form)

  pub parted-several : own.parts ≡ true → own.several ≡ true
  parted-several e = has-several ∙ parts-several kind_of.form (sym has-parts ∙ e)

  -- the content's rules decide
  later : record_fault (taken_from plan) l x at (k + 1) ≡ first (content_rules kind_of l) 0
  later = by_content (taken_from plan) l x at (k + 1) (sym o.hd) ∙ ap (λ (t : Taken). first (content_rules t l) 0) (sym o.owned.kind_is)

  -- what they answer, where the walk from here on has the verdict v
  module _ (ps ns : ℕ) {v : Said Counts} (rest : walk_from (taken_from plan) l x at (counts k ps ns) ≡ v) where
    answer : (r : ℕ) → (r ≡ 0 → ⊥) → first (content_rules kind_of l) 0 ≡ r → fault r (k + 1) ≡ v
    answer r m e = sym (broken (taken_from plan) l x at (counts k ps ns) o.inside r m (later ∙ e)) ∙ rest

    pub no13 : P13 kind_of l ≡ false → fault 13 (k + 1) ≡ v
    no13 e = answer 13 (λ z. omega arith) (rw e)

-- What its words have room for, with p parts and n points: the words in front of the points, the parts' starts and points, and the box.
pub record Fit (own : Plan) (l x : List ℕ) (w p n : ℕ) : Type 0 where
  pub held : w < 2 ^ 31
  pub within : 8 + 2 * w ≤ length l
  pub entry : 8 ≤ length x
  pub least_some : 1 ≤ own.least
  pub least_few : own.least ≤ 4
  pub few_parts : p ≤ w
  pub few_points : n ≤ w
  pub in_front : own.front + 2 * p ≤ w
  pub in_parts : 0 < p → (own.front ≡ 22) × (22 + 2 * p + 8 * n ≤ w)
  pub in_box : 12 + 8 * cond own.several 4 0 ≤ 8 + 2 * w

least_more : (b : Bool) → (1 ≤ cond b 4 2) × (cond b 4 2 ≤ 4)
least_more true = (lit≤ tt, lit≤ tt)
least_more false = (lit≤ tt, lit≤ tt)

-- as many rings as parts, or none
pub few_rings : (b : Bool) (p : ℕ) → cond b p 0 ≤ p
few_rings true p = le_refl p
few_rings false p = zero-le

pub long_rings : (b : Bool) (s : List ℕ) (n least at cur p : ℕ) → parts_long least p at cur n s ≡ true → parts_long least (cond b p 0) at cur n s ≡ true
long_rings true s n least at cur p e = e
long_rings false s n least at cur p e = parts_done s n least at cur 0 zero-le

-- with parts, with several points without them, and with neither
by_flags : (b m : Bool) (a i j w p n front : ℕ) → front ≡ front_of b m → p ≡ cond b i 0 → n ≡ cond b j (cond m i a) → 2 ≤ w → a ≤ 1 → (b ≡ true → m ≡ true)
    → (m ≡ true → front + 2 * p + 8 * n ≤ w)
    → (p ≤ w) × (n ≤ w) × (front + 2 * p ≤ w) × (0 < p → (front ≡ 22) × (22 + 2 * p + 8 * n ≤ w)) × (12 + 8 * cond m 4 0 ≤ 8 + 2 * w)
by_flags true true a i j w p n front g e f h k s r = let q = r refl in (omega arith, omega arith, omega arith, λ z. (g, omega arith), omega arith)
by_flags true false a i j w p n front g e f h k s r = absurd (let z : ◌≡◌ {A = Bool} false true = s refl in let y : ◌≡◌ {A = ℕ} 0 1 = cc in omega arith)
by_flags false true a i j w p n front g e f h k s r = let q = r refl in (omega arith, omega arith, omega arith, λ z. absurd (omega arith), omega arith)
by_flags false false a i j w p n front g e f h k s r = (omega arith, omega arith, omega arith, λ z. absurd (omega arith), omega arith)

-- and with its counts read, where its length is one that they give
pub record Here (plan own : Plan) (l x : List ℕ) (at k ps ns p n : ℕ) (v : Said Counts) : Type 0 where
  pub opened : Open plan own l x at k
  pub sized : P13 (taken_from own) l ≡ true
  pub pe : p ≡ cond own.parts (little_at 44 l) 0
  pub ne : n ≡ cond own.parts (little_at 48 l) (cond own.several (little_at 44 l) own.points)
  pub rest : walk_from (taken_from plan) l x at (counts k ps ns) ≡ v

-- a record with several points has room for its counts
pub counted : {plan own : Plan} {l x : List ℕ} {at k : ℕ} → (o : Open plan own l x at k) → P13 (taken_from own) l ≡ true
    → own.several ≡ true → own.front + 2 * parts_of (taken_from own).form l + 8 * points_of (taken_from own).form l ≤ words_of l
counted {plan} {own} {l} o e m = rw (front-is o, ← front_more (taken_from own).form l) (several-room (taken_from own) l e (sym (has-several o) ∙ m))

module _ {plan own : Plan} {l x : List ℕ} {at k ps ns p n : ℕ} {v : Said Counts} (h : Here plan own l x at k ps ns p n v) where
  abbrev kind_here : Taken
  kind_here = taken_from own

  abbrev w : ℕ
  w = words_of l

  alone-is : own.points ≡ points_alone kind_here.form
  alone-is = ap (λ (q : Plan). q.points) h.opened.owned.is

  p_of : p ≡ parts_of kind_here.form l
  p_of = h.pe ∙ sym (parts-of kind_here.form l ∙ rw (← has-parts h.opened))

  n_of : n ≡ points_of kind_here.form l
  n_of =
      h.ne
      ∙ sym (points-of kind_here.form l
      ∙ rw (← has-parts h.opened, ← has-several h.opened, ← alone-is))

  -- the words in front of its points
  abbrev pub fronts : ℕ
  fronts = own.front + 2 * p

  fronts_are : front_words kind_here.form (parts_of kind_here.form l) ≡ fronts
  fronts_are = front_more kind_here.form l ∙ ap₂ (λ (a b : ℕ). a + 2 * b) (sym (front-is h.opened)) (sym p_of)

  has-rings : own.rings ≡ has_rings kind_here.kind
  has-rings = ap (λ (q : Plan). q.rings) h.opened.owned.is

  least_of : own.least ≡ least_points kind_here.kind
  least_of = ap (λ (q : Plan). q.least) h.opened.owned.is

  -- ---- what its words and its counts have room for

  counts-room : own.several ≡ true → own.front + 2 * p + 8 * n ≤ w
  counts-room e = rw (p_of, n_of) (counted h.opened h.sized e)

  pub parts-room : own.parts ≡ true → 22 + 2 * p + 8 * n ≤ w
  parts-room e = rw (front_flags h.opened, e) at (counts-room (parted-several h.opened e))

  few_alone : own.points ≤ 1
  few_alone = rw alone-is (at_most_one kind_here.form)

  pub fit : Fit own l x w p n
  fit =
      let r = within plan.kind l x at (k + 1) h.opened.hd in
      let q = by_flags own.parts own.several own.points (little_at 44 l) (little_at 48 l) w p n own.front (front_flags h.opened) h.pe h.ne r.some few_alone (parted-several h.opened) counts-room in
      let l : own.least ≡ cond (has_rings kind_here.kind) 4 2 = least_of ∙ least-is kind_here.kind in
      record {
        held = r.held;
        within = r.within;
        entry = r.entry;
        least_some = rw l (least_more (has_rings kind_here.kind)).0;
        least_few = rw l (least_more (has_rings kind_here.kind)).1;
        few_parts = q.0;
        few_points = q.1;
        in_front = q.2;
        in_parts = q.3;
        in_box = q.4;
      }

  -- ---- the rules of its shape

  abbrev pub begins : Bool
  begins = begins_of own.parts own.several p n (little_at 52 l)

  abbrev pub long : Bool
  long = parts_long own.least p 56 0 n l

  abbrev pub closed : Bool
  closed = rings_closed (8 + 2 * fronts) (cond own.rings p 0) 56 0 n l

  abbrev pub corners : Bool
  corners = finites (cond own.several 4 0) 12 l

  abbrev pub back : Bool
  back = finites ((w - fronts) / 4) (8 + 2 * fronts) l

  rule14 : P14 kind_here l ≡ (begins && long)
  rule14 = shape14 kind_here l ∙ rw (← has-parts h.opened, ← has-several h.opened, ← least_of, ← p_of, ← n_of)

  rule15 : P15 kind_here l ≡ closed
  rule15 =
      shape15 kind_here l fronts fronts_are (λ e. sym (has-parts h.opened) ∙ h.opened.owned.ringed (has-rings ∙ e))
      ∙ rw (← has-rings, ← p_of, ← n_of)

  rule16 : P16 kind_here l ≡ (corners && back)
  rule16 = shape16 kind_here l fronts fronts_are ∙ rw (← has-several h.opened)

  -- ---- what each of them answers where it is broken

  fails : (r : ℕ) → (r ≡ 0 → ⊥) → first (content_rules kind_here l) 0 ≡ r → fault r (k + 1) ≡ v
  fails r m e = answer h.opened ps ns h.rest r m e

  pub no14_first : begins ≡ false → fault 14 (k + 1) ≡ v
  no14_first a = fails 14 (λ e. omega arith) (rw (h.sized, rule14, a))

  module _ (a : begins ≡ true) where
    pub no14 : long ≡ false → fault 14 (k + 1) ≡ v
    no14 b = fails 14 (λ e. omega arith) (rw (h.sized, rule14, a, b))

    module _ (b : long ≡ true) where
      pub no15 : closed ≡ false → fault 15 (k + 1) ≡ v
      no15 c = fails 15 (λ e. omega arith) (rw (h.sized, rule14, a, b, rule15, c))

      module _ (c : closed ≡ true) where
        pub no16_box : corners ≡ false → fault 16 (k + 1) ≡ v
        no16_box d = fails 16 (λ e. omega arith) (rw (h.sized, rule14, a, b, rule15, c, rule16, d))

        module _ (d : corners ≡ true) where
          pub no16 : back ≡ false → fault 16 (k + 1) ≡ v
          no16 e = fails 16 (λ e. omega arith) (rw (h.sized, rule14, a, b, rule15, c, rule16, d, e))

          pub next : back ≡ true → walk_from (taken_from plan) (drop (8 + 2 * w) l) (drop 8 x) (at + (8 + 2 * w)) (counts (k + 1) (ps + p) (ns + n)) ≡ v
          next e =
              sym (met_all (taken_from plan) l x at (counts k ps ns) h.opened.inside (later h.opened ∙ rw (h.sized, rule14, a, b, rule15, c, rule16, d, e))
              ∙ rw (← h.opened.owned.kind_is, ← p_of, ← n_of) refl)
              ∙ h.rest
