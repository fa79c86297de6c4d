-- A no names the first fault: the headers', or that of the first record with one, or the first index entry left over.
use mathlib.Core.Path.{◌≡◌, sym, ap, ap₂, ◌∙◌}
use mathlib.Core.List.{List}
use mathlib.Core.Logic.{◌⊎◌, inl, inr, ⊎_elim}
use mathlib.Core.Option.{Option}
use Prim.Native.Nat.{ℕ, ◌+◌, ◌*◌, ◌≤◌, ◌<◌}
use native.Mathlib.Omega.{arith}
use lib.ListN.{length, drop}
use Rattle.format.specs.Encoding.{end_from}
use Rattle.format.specs.Said.{fault}
use Rattle.format.proofs.ByteLaws.{AllBytes}
use Rattle.rules.specs.Rules.{Taken, Counts, taken_in, headers_fault, record_fault, walk_from, none_yet, records_verdict, verdict}
use Rattle.rules.proofs.HeaderRules.{Headers, headers, headers-fine, named, name_taken}
use Rattle.rules.proofs.VerdictLaws.{on_fault, fault_on, left_over, over_left, verdict-is, verdict-walk}
use Rattle.rules.proofs.WalkLaws.{walk_end, walk_record}
use Rattle.meaning.specs.Consequences.{Why, Stopped}
use Rattle.meaning.proofs.Behind.{split, walked}
use Rattle.meaning.proofs.Only.{no_byte}
use Rattle.meaning.proofs.Skip.{plus, skips}
use Rattle.meaning.proofs.Split.{Split}
use Rattle.meaning.proofs.Table.{known}

-- ---- where a walk stops

module _ (t : Taken) (l x : List ℕ) (at : ℕ) (c : Counts) where
  stopped : (r n : ℕ) → (length l ≡ 0) ⊎ ((0 < length l) × (record_fault t l x at (c.records + 1) ≡ 0 → ⊥)) → walk_from t l x at c ≡ fault r n
      → (n ≡ c.records + 1) × Why t l x at r (c.records + 1)
  stopped r n (inl h) e =
      let q = left_over x c r n (sym (walk_end t x at c) ∙ (ap (λ (s : List ℕ). walk_from t s x at c) (sym (no_byte l h)) ∙ e)) in
      (sym q.2, inr (h, q.0, sym q.1))
  stopped r n (inr h) e =
      ⊎_elim (λ y. (sym y.2, inl (h.0, omega (arith, y.0, y.1), y.1))) (λ y. absurd (h.1 y.0))
      (on_fault _ _ _ r n (sym (walk_record t l x at c h.0) ∙ e))

  stops : (r : ℕ) → Why t l x at r (c.records + 1) → walk_from t l x at c ≡ fault r (c.records + 1)
  stops r (inl y) = walk_record t l x at c y.0 ∙ rw y.2 (fault_on r (c.records + 1) _ y.1)
  stops r (inr y) = ap (λ (s : List ℕ). walk_from t s x at c) (no_byte l y.0) ∙ (walk_end t x at c ∙ rw y.2 (over_left x c y.1))

-- ---- from the verdict

walk_no : (shp shx : List ℕ) (b : AllBytes shp) (bx : AllBytes shx) (t : Taken) (h : Headers shp shx t)
    (sp : Split t (drop 100 shp) (drop 100 shx) 50 1) (r k : ℕ) → walk_from t (drop 100 shp) (drop 100 shx) 100 none_yet ≡ fault r k → Stopped shp shx r k
walk_no shp shx b bx t h sp r k e =
    let c : Counts = plus none_yet sp.shapes in
    let n : 1 + length sp.shapes ≡ c.records + 1 = omega arith in
    let q = stopped t sp.rest sp.left (2 * end_from 50 sp.shapes) c r k (rw n at sp.stop) (sym (walked shp shx b bx t h sp) ∙ e) in
    record {
      taken = t;
      headers = headers-fine shp shx t h;
      named = name_taken shp t h.kind;
      shapes = sp.shapes;
      rest = sp.rest;
      left = sp.left;
      fine = sp.fine;
      held = sp.held;
      file = sp.file;
      entries = sp.entries;
      number = omega (arith, q.0);
      why = rw (← q.0) at q.1;
    }

module _ (shp shx : List ℕ) (b : AllBytes shp) (bx : AllBytes shx) where
  records_no : (r k : ℕ) → headers_fault shp shx ≡ 0 → records_verdict (taken_in shp) shp shx ≡ fault r k → Stopped shp shx r k
  records_no r k z e =
      let q = headers shp shx z in
      walk_no shp shx b bx q.0 q.1 (split shp shx b bx q.0 q.1) r k
      (ap (λ (o : Option Taken). records_verdict o shp shx) (sym (name_taken shp q.0 q.1.kind)) ∙ e)

  pub no_record : (r k : ℕ) → 1 ≤ k → verdict shp shx ≡ fault r k → Stopped shp shx r k
  no_record r k h e = ⊎_elim (λ y. absurd (omega (arith, y.2))) (λ y. records_no r k y.0 y.1) (on_fault (headers_fault shp shx) 0 _ r k (sym (verdict-is shp shx) ∙ e))

  pub no_header : (r : ℕ) → verdict shp shx ≡ fault r 0 → (0 < r) × (headers_fault shp shx ≡ r)
  no_header r e =
      ⊎_elim (λ y. (omega (arith, y.0, y.1), y.1)) (λ y. absurd (omega (arith, (records_no r 0 y.0 y.1).number)))
      (on_fault (headers_fault shp shx) 0 _ r 0 (sym (verdict-is shp shx) ∙ e))

-- ---- and to the verdict

pub header_no : (shp shx : List ℕ) (r : ℕ) → 0 < r → headers_fault shp shx ≡ r → verdict shp shx ≡ fault r 0
header_no shp shx r h e = verdict-is shp shx ∙ rw e (fault_on r 0 _ h)

pub record_no : (shp shx : List ℕ) (r k : ℕ) → Stopped shp shx r k → verdict shp shx ≡ fault r k
record_no shp shx r k s =
    let t = s.taken in
    let q = named shp t s.named in
    let c : Counts = plus none_yet s.shapes in
    let n : k ≡ c.records + 1 = omega (arith, s.number) in
    verdict-walk shp shx t s.headers s.named
    ∙ (ap₂ (λ (l x : List ℕ). walk_from t l x 100 none_yet) (sym s.file) (sym s.entries)
    ∙ (skips t (known _ t q.row q.form) s.shapes 50 none_yet s.rest s.left s.fine s.held
    ∙ rw n (stops t s.rest s.left (2 * end_from 50 s.shapes) c r (rw n at s.why))))
