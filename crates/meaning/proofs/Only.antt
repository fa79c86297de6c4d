-- A yes has its file: the kind, the box and the shapes that are read from the bytes.
use mathlib.Core.Path.{◌≡◌, refl, sym, ap, ◌∙◌}
use mathlib.Core.List.{List, [], ◌∷◌, ◌++◌, append-nil}
use mathlib.Core.Logic.{◌⊎◌, inl, inr}
use mathlib.Core.Option.{Option}
use Prim.Native.Nat.{ℕ, ◌+◌, ◌*◌, ◌<◌}
use native.Mathlib.Nat.{zero-add}
use native.Mathlib.Omega.{arith}
use lib.ListN.{length, drop, length-drop}
use Rattle.format.specs.Encoding.{records_from, end_from}
use Rattle.format.specs.Said.{gives}
use Rattle.format.proofs.ByteLaws.{AllBytes}
use Rattle.format.proofs.Equations.{shp_is, shx_is}
use Rattle.format.proofs.Records.{entries_bytes, length-entries}
use Rattle.format.proofs.HeaderLaws.{length-header}
use Rattle.rules.specs.Meaning.{FileOf, Encoded}
use Rattle.rules.specs.Rules.{Taken, Counts, big_at, taken_in, headers_fault, record_fault, walk_from, none_yet, records_verdict, verdict}
use Rattle.rules.proofs.HeaderRules.{Headers, headers, name_taken}
use Rattle.rules.proofs.VerdictLaws.{on_gives, finished, verdict-is}
use Rattle.rules.proofs.WalkLaws.{walk_end, walk_record}
use Rattle.meaning.proofs.Behind.{taken-kind, box, box_finite, shp-header, shx-header, split, walked}
use Rattle.meaning.proofs.EachRecord.{length-records}
use Rattle.meaning.proofs.Skip.{plus}
use Rattle.meaning.proofs.Split.{Split}

-- ---- where a walk ends

pub no_byte : (l : List ℕ) → length l ≡ 0 → l ≡ []
no_byte [] h = refl
no_byte (a ∷ l) h = absurd (omega arith)

-- a walk that ends with a yes has come to the end of both files
ended : (t : Taken) (l x : List ℕ) (at k : ℕ) (c d : Counts) → k ≡ c.records + 1 → (length l ≡ 0) ⊎ ((0 < length l) × (record_fault t l x at k ≡ 0 → ⊥))
    → walk_from t l x at c ≡ gives d → (l ≡ []) × (x ≡ []) × (c ≡ d)
ended t l x at k c d n (inl h) e =
    let p = no_byte l h in
    let q = finished x c d (sym (walk_end t x at c) ∙ (ap (λ (s : List ℕ). walk_from t s x at c) (sym p) ∙ e)) in
    (p, q.0, q.1)
ended t l x at k c d n (inr h) e = absurd (h.1 (rw n (on_gives _ _ _ d (sym (walk_record t l x at c h.0) ∙ e)).0))

-- ---- the file

module _ (shp shx : List ℕ) (b : AllBytes shp) (bx : AllBytes shx) (t : Taken) (h : Headers shp shx t) (sp : Split t (drop 100 shp) (drop 100 shx) 50 1)
    (no-rest : sp.rest ≡ []) (no-left : sp.left ≡ []) where
  records : records_from t.kind 1 sp.shapes ≡ drop 100 shp
  records = sym (append-nil _) ∙ (ap (λ (r : List ℕ). records_from t.kind 1 sp.shapes ++ r) (sym no-rest) ∙ sp.file)

  entries : entries_bytes 50 sp.shapes ≡ drop 100 shx
  entries = sym (append-nil _) ∙ (ap (λ (r : List ℕ). entries_bytes 50 sp.shapes ++ r) (sym no-left) ∙ sp.entries)

  shp_words : big_at 24 shp ≡ end_from 50 sp.shapes
  shp_words = omega (arith, h.shp_words, h.shp_long, ap length records, length-drop 100 shp, length-records t.kind 1 50 sp.shapes sp.fine)

  shx_words : big_at 24 shx ≡ 50 + 4 * length sp.shapes
  shx_words = omega (arith, h.shx_words, h.shx_long, ap length entries, length-drop 100 shx, length-entries 50 sp.shapes)

  file : FileOf t.kind (box shp shx b bx t h) sp.shapes shp shx
  file =
      let bits = box shp shx b bx t h in
      record {
        kind = taken-kind shp shx b bx t h;
        box_finite = box_finite shp shx b bx t h;
        fine = sp.fine;
        is =
            record {
              shp_is = rw (shp_is t.kind bits sp.shapes, records, ← shp_words) (rw (length-header (big_at 24 shp) t.kind.code bits) at (shp-header shp shx b bx t h).here);
              shx_is = rw (shx_is t.kind bits sp.shapes, entries, ← shx_words) (rw (length-header (big_at 24 shx) t.kind.code bits) at (shx-header shp shx b bx t h).here);
              shp_held = rw shp_words at h.shp_held;
              shx_held = rw shx_words at h.shx_held;
              held = sp.held;
            };
      }

  encoded : (c : Counts) → plus none_yet sp.shapes ≡ c → Encoded shp shx c
  encoded c e =
      record {
        kind = t.kind;
        box = box shp shx b bx t h;
        shapes = sp.shapes;
        file = file;
        records = sym (zero-add _) ∙ ap (λ (d : Counts). d.records) e;
        parts = sym (zero-add _) ∙ ap (λ (d : Counts). d.parts) e;
        points = sym (zero-add _) ∙ ap (λ (d : Counts). d.points) e;
      }

walk-only : (shp shx : List ℕ) (b : AllBytes shp) (bx : AllBytes shx) (t : Taken) (h : Headers shp shx t)
    (sp : Split t (drop 100 shp) (drop 100 shx) 50 1) (c : Counts) → walk_from t (drop 100 shp) (drop 100 shx) 100 none_yet ≡ gives c → Encoded shp shx c
walk-only shp shx b bx t h sp c e =
    let ss = sp.shapes in
    let q = ended t sp.rest sp.left (2 * end_from 50 ss) (1 + length ss) (plus none_yet ss) c (omega arith) sp.stop (sym (walked shp shx b bx t h sp) ∙ e) in
    encoded shp shx b bx t h sp q.0 q.1 c q.2

pub only : (shp shx : List ℕ) → AllBytes shp → AllBytes shx → (c : Counts) → verdict shp shx ≡ gives c → Encoded shp shx c
only shp shx b bx c e =
    let p = on_gives (headers_fault shp shx) 0 (records_verdict (taken_in shp) shp shx) c (sym (verdict-is shp shx) ∙ e) in
    let q = headers shp shx p.0 in
    walk-only shp shx b bx q.0 q.1 (split shp shx b bx q.0 q.1) c
    (ap (λ (o : Option Taken). records_verdict o shp shx) (sym (name_taken shp q.0 q.1.kind)) ∙ p.1)
