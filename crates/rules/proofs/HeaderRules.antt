-- Headers without fault, by what P1 to P8 say; and the kind that they name.
use mathlib.Core.Path.{◌≡◌, refl, subst}
use mathlib.Core.Bool.{true, ◌&&◌}
use mathlib.Core.List.{List, [], ◌∷◌}
use mathlib.Core.Option.{Option, none, some}
use Prim.Native.Nat.{ℕ, ◌*◌, ◌-◌, ◌%◌, ◌≤◌}
use native.Mathlib.Omega.{arith}
use lib.Dec.{eqb}
use lib.IntN.{pos}
use lib.ListN.{length}
use borrow.Author.Tests.{le-leb, leb-true, lt-ltb, ltb-true, eq-eqb, eqb-true}
use Rattle.format.specs.declared.kinds.Kind.{Kind}
use Rattle.format.specs.Bytes.{field}
use Rattle.format.specs.Encoding.{Held}
use Rattle.format.specs.Kinds.{kind_at}
use Rattle.format.specs.Lengths.{Form, form_of}
use Rattle.format.specs.Shapes.{there}
use Rattle.format.proofs.OrderLaws.{both_true, ◌then◌, all_pass, no_fault}
use Rattle.format.proofs.HeaderLaws.{zeros}
use Rattle.rules.specs.Rules.{Taken, big_at, little_at, held, same_bytes, finites, with_form, taken_of, taken_in, length_right, headers_rules, headers_fault}

-- ---- bytes that are the same

same-bytes : (a b : List ℕ) → same_bytes a b ≡ true → a ≡ b
unfolding same_bytes
same-bytes [] [] e = refl
same-bytes [] (y ∷ b) e = absurd (let z : ◌≡◌ {A = ℕ} 0 1 = cc in omega arith)
same-bytes (x ∷ a) [] e = absurd (let z : ◌≡◌ {A = ℕ} 0 1 = cc in omega arith)
same-bytes (x ∷ a) (y ∷ b) e =
    let p = both_true (eqb x y) (same_bytes a b) e in
    let h = eqb-true x y p.0 in
    let t = same-bytes a b p.1 in
    λ i. h i ∷ t i

itself : (a : List ℕ) → same_bytes a a ≡ true
unfolding same_bytes
itself [] = refl
itself (x ∷ a) = rw (eq-eqb x x refl) (itself a)

bytes_same : (a b : List ℕ) → a ≡ b → same_bytes a b ≡ true
bytes_same a b e = rw (← e) (itself a)

-- ---- the kind

-- the kind that the header's code names, with its form
pub record Named (shp : List ℕ) (t : Taken) : Type 0 where
  pub row : kind_at (pos (little_at 32 shp)) ≡ some t.kind
  pub form : form_of t.kind ≡ some t.form

with-form : (shp : List ℕ) (t : Taken) (k : Kind) (f : Option Form) → form_of k ≡ f → kind_at (pos (little_at 32 shp)) ≡ some k
    → with_form k f ≡ some t → Named shp t
with-form shp t k none ef ek e = absurd (let z : ◌≡◌ {A = ℕ} 0 1 = cc in omega arith)
with-form shp t k (some f) ef ek e =
    let u : Taken = record { kind = k; form = f } in
    let same : u ≡ t = cc in
    subst (Named shp) same (record { row = ek; form = ef })

of_row : (shp : List ℕ) (t : Taken) (o : Option Kind) → kind_at (pos (little_at 32 shp)) ≡ o → taken_of o ≡ some t → Named shp t
of_row shp t none eo e = absurd (let z : ◌≡◌ {A = ℕ} 0 1 = cc in omega arith)
of_row shp t (some k) eo e = with-form shp t k (form_of k) refl eo e

pub named : (shp : List ℕ) (t : Taken) → taken_in shp ≡ some t → Named shp t
unfolding taken_in
named shp t e = of_row shp t (kind_at (pos (little_at 32 shp))) refl e

pub name_taken : (shp : List ℕ) (t : Taken) → Named shp t → taken_in shp ≡ some t
unfolding taken_in
name_taken shp t n = rw (n.row, n.form)

is-taken : (o : Option Taken) → there o ≡ true → (t : Taken) × (o ≡ some t)
is-taken none e = absurd (let z : ◌≡◌ {A = ℕ} 0 1 = cc in omega arith)
is-taken (some t) e = (t, refl)

-- ---- the rules

pub record Headers (shp shx : List ℕ) (t : Taken) : Type 0 where
  pub shp_long : 100 ≤ length shp
  pub shx_long : 100 ≤ length shx
  pub magic : big_at 0 shp ≡ 9994
  pub unused : field 20 4 shp ≡ zeros
  pub version : little_at 28 shp ≡ 1000
  pub kind : Named shp t
  pub shp_held : Held (big_at 24 shp)
  pub shp_words : 2 * big_at 24 shp ≡ length shp
  pub finite : finites 8 36 shp ≡ true
  pub same_top : field 24 0 shx ≡ field 24 0 shp
  pub same_tail : field 72 28 shx ≡ field 72 28 shp
  pub shx_held : Held (big_at 24 shx)
  pub shx_words : 2 * big_at 24 shx ≡ length shx
  pub entries : (length shx - 100) % 8 ≡ 0

module _ (shp shx : List ℕ) where
  pub headers : headers_fault shp shx ≡ 0 → (t : Taken) × Headers shp shx t
  unfolding headers_fault
  headers e =
      let p = no_fault (headers_rules shp shx) tt e in
      let p3 = both_true (eqb (big_at 0 shp) 9994 && same_bytes (field 20 4 shp) zeros) (eqb (little_at 28 shp) 1000) (p 2) in
      let p3' = both_true (eqb (big_at 0 shp) 9994) (same_bytes (field 20 4 shp) zeros) p3.0 in
      let p4 = is-taken (taken_in shp) (p 3) in
      let p5 = both_true (held (big_at 24 shp)) (eqb (2 * big_at 24 shp) (length shp)) (p 4) in
      let p7 = both_true (same_bytes (field 24 0 shx) (field 24 0 shp)) (same_bytes (field 72 28 shx) (field 72 28 shp)) (p 6) in
      let p8 = both_true (length_right shx) (eqb ((length shx - 100) % 8) 0) (p 7) in
      let p8' = both_true (held (big_at 24 shx)) (eqb (2 * big_at 24 shx) (length shx)) p8.0 in (
        p4.0,
        record {
          shp_long = leb-true _ _ (p 0);
          shx_long = leb-true _ _ (p 1);
          magic = eqb-true _ _ p3'.0;
          unused = same-bytes _ _ p3'.1;
          version = eqb-true _ _ p3.1;
          kind = named shp p4.0 p4.1;
          shp_held = ltb-true _ _ p5.0;
          shp_words = eqb-true _ _ p5.1;
          finite = p 5;
          same_top = same-bytes _ _ p7.0;
          same_tail = same-bytes _ _ p7.1;
          shx_held = ltb-true _ _ p8'.0;
          shx_words = eqb-true _ _ p8'.1;
          entries = eqb-true _ _ p8.1;
        },
      )

  pub headers-fine : (t : Taken) → Headers shp shx t → headers_fault shp shx ≡ 0
  unfolding headers_fault
  headers-fine t h =
      all_pass (headers_rules shp shx) 0
      (le-leb _ _ h.shp_long
      then le-leb _ _ h.shx_long
      then (rw (eq-eqb _ _ h.magic, bytes_same _ _ h.unused, eq-eqb _ _ h.version))
      then (rw (name_taken shp t h.kind))
      then (rw (lt-ltb _ _ h.shp_held, eq-eqb _ _ h.shp_words))
      then h.finite
      then (rw (bytes_same _ _ h.same_top, bytes_same _ _ h.same_tail))
      then (rw (lt-ltb _ _ h.shx_held, eq-eqb _ _ h.shx_words, eq-eqb _ _ h.entries))
      then tt)
