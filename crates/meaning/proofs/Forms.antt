-- The rules P13 to P16 and the shape that a record's bytes hold, for every taken kind.
use mathlib.Core.Path.{◌≡◌, refl, sym, ap, ◌∙◌, subst}
use mathlib.Core.Bool.{Bool, true, false}
use mathlib.Core.List.{List, flatten}
use mathlib.Core.Option.{some}
use Prim.Native.Nat.{ℕ, ◌+◌, ◌*◌, ◌≤◌}
use native.Mathlib.Omega.{arith}
use lib.ListN.{length}
use borrow.Author.Tests.{eq-eqb, eqb-true}
use Rattle.format.specs.declared.kinds.Kind.{Kind}
use Rattle.format.specs.Encoding.{shape_bytes, shape_words, Held}
use Rattle.format.specs.Lengths.{Form, nothing, one_point, many_points, form_of}
use Rattle.format.specs.Lengths
use Rattle.format.specs.Shapes.{Shape, null, point, multipoint, parted, OfKind, parts_in, points_in}
use Rattle.format.specs.WellFormed.{has_rings, WellFormed}
use Rattle.format.proofs.ByteLaws.{AllBytes}
use Rattle.format.proofs.Equations.{front-null, parts-null, parts-point, parts-multipoint, parts-parted, points-null, points-point, points-multipoint, points-parted, shape-null}
use Rattle.format.proofs.Laid.{nothing-words, null-words}
use Rattle.format.proofs.Places.{Stands}
use Rattle.rules.specs.Rules.{Taken, words_of, parts_of, points_of}
use Rattle.rules.proofs.FaultLaws.{Met}
use Rattle.rules.proofs.FiniteLaws.{finites-none, rule16}
use Rattle.meaning.proofs.BackMultipoint.{number_read, multipoint_same, multipoint_met}
use Rattle.meaning.proofs.BackParts.{parts-read, points-read, parts_same, parts_met}
use Rattle.meaning.proofs.Decode.{shape_at, Shaped}
use Rattle.meaning.proofs.Points.{same_twice, read-point, point_same, point_met}
use Rattle.meaning.proofs.ReadMultipoint.{read-multipoint}
use Rattle.meaning.proofs.ReadParts.{read-parts}

read-nothing : (k : Kind) (l : List ℕ) → form_of k ≡ some nothing → Met (record { kind = k; form = nothing }) l → Shaped (record { kind = k; form = nothing }) l null
read-nothing k l f met =
    record {
      of_kind = f;
      well = tt;
      words = eqb-true _ _ (same_twice _ met.p13) ∙ (nothing-words k.z k.m ∙ sym null-words);
      parts = sym parts-null;
      points = sym points-null;
      stands = rw shape-null (record { here = refl });
    }

-- what meets the rules holds the shape that is read from it
pub read : (k : Kind) (form : Form) (l : List ℕ) → AllBytes l → form_of k ≡ some form → Met (record { kind = k; form = form }) l
    → Shaped (record { kind = k; form = form }) l (shape_at k form l)
unfolding shape_at
read k nothing l b f met = read-nothing k l f met
read k one_point l b f met = read-point k l b f met
read k many_points l b f met = read-multipoint k l b f met
read k Lengths.parts l b f met = read-parts k l b f met

-- a shape that stands there, and is well-formed, meets the rules, and is the one that is read
pub record Back (t : Taken) (l : List ℕ) (s : Shape) : Type 0 where
  pub same : shape_at t.kind t.form l ≡ s
  pub parts : parts_of t.form l ≡ parts_in s
  pub points : points_of t.form l ≡ points_in s
  pub met : 8 + 2 * words_of l ≤ length l → Met t l

no_rings : (k : Kind) (form : Form) → (has_rings k ≡ true → form_of k ≡ some Lengths.parts) → form_of k ≡ some form → (form ≡ Lengths.parts → ⊥) → has_rings k ≡ false
no_rings k form r f n = go (has_rings k) refl
  where
    go : (b : Bool) → has_rings k ≡ b → b ≡ false
    go false e = refl
    go true e = let q : form_of k ≡ some Lengths.parts = r e in absurd (n (cc))

module _ (k : Kind) (l : List ℕ) (rings : has_rings k ≡ true → form_of k ≡ some Lengths.parts) where
  pub back_as : (s : Shape) → OfKind k s → WellFormed k s → Held (parts_in s) → Held (points_in s) → words_of l ≡ shape_words s → Stands 12 (shape_bytes s) l
      → (form : Form) → form_of k ≡ some form → Back (record { kind = k; form = form }) l s
  unfolding shape_at
  back_as null o v hp hn w st form f =
      let e : nothing ≡ form = cc in
      let never : nothing ≡ Lengths.parts → ⊥ = λ p. let z : ◌≡◌ {A = ℕ} 0 1 = cc in omega arith in
      subst (λ (x : Form). Back (record { kind = k; form = x }) l null) e
      (record {
        same = refl;
        parts = sym parts-null;
        points = sym points-null;
        met =
            λ within.
            record {
              within = within;
              p13 = rw (nothing-words k.z k.m, eq-eqb (words_of l) 2 (w ∙ null-words));
              p14 = refl;
              p15 = rw (no_rings k nothing rings o never);
              p16 = rule16 (record { kind = k; form = nothing }) l 2 (front-null 0) 0 (w ∙ null-words) ∙ rw (finites-none 12 l);
            };
      })
  back_as (point xy z m) o v hp hn w st form f =
      let q = o.form in
      let e : one_point ≡ form = cc in
      let never : one_point ≡ Lengths.parts → ⊥ = λ p. let z : ◌≡◌ {A = ℕ} 0 1 = cc in omega arith in
      subst (λ (x : Form). Back (record { kind = k; form = x }) l (point xy z m)) e
      (record {
        same = point_same k l xy z m o v w st;
        parts = sym (parts-point xy z m);
        points = sym (points-point xy z m);
        met = point_met k l xy z m o v w st (no_rings k one_point rings o.form never);
      })
  back_as (multipoint s) o v hp hn w st form f =
      let q = o.form in
      let e : many_points ≡ form = cc in
      let never : many_points ≡ Lengths.parts → ⊥ = λ p. let z : ◌≡◌ {A = ℕ} 0 1 = cc in omega arith in
      let n : Held (length s.points) = rw (points-multipoint s) at hn in
      subst (λ (x : Form). Back (record { kind = k; form = x }) l (multipoint s)) e
      (record {
        same = ap multipoint (multipoint_same k l s o v n w st);
        parts = sym (parts-multipoint s);
        points = number_read k l s o v n w st ∙ sym (points-multipoint s);
        met = multipoint_met k l s o v n w st (no_rings k many_points rings o.form never);
      })
  back_as (parted s) o v hp hn w st form f =
      let q = o.form in
      let e : Lengths.parts ≡ form = cc in
      let p : Held (length s.parts) = rw (parts-parted s) at hp in
      let n : Held (length (flatten s.parts)) = rw (points-parted s) at hn in
      subst (λ (x : Form). Back (record { kind = k; form = x }) l (parted s)) e
      (record {
        same = ap parted (parts_same k l s o v p n w st);
        parts = parts-read k l s o v p n w st ∙ sym (parts-parted s);
        points = points-read k l s o v p n w st ∙ sym (points-parted s);
        met = parts_met k l s o v p n w st;
      })
