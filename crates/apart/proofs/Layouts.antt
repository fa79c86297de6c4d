-- Writing a body: the tables describe the same shape and agree where they did, so the answer and the bytes are the same.
use mathlib.Core.Path.{◌≡◌, refl, sym, ap, ap₂, ◌∙◌}
use mathlib.Core.Bool.{Bool, true, false, cond, ◌&&◌, ◌||◌}
use mathlib.Core.List.{List, [], ◌∷◌}
use Prim.Native.Nat.{ℕ, ◌*◌, ◌%◌, ◌^◌}
use native.Mathlib.Omega.{arith}
use lib.Dec.{eqb, ltb, leb}
use lib.Ieee.{Float}
use lib.ListN.{length}
use lib.Seq.{sets}
use borrow.Author.Tests.{eq-eqb, ne_eqb, eqb-true, eqb-false}
use Rattle.std.specs.Prelude.{Result}
use Rattle.format.specs.Encoding.{shape_bytes}
use Rattle.format.specs.Said.{gives, tables, long, room_bytes, unless_refused}
use Rattle.format.specs.Shapes.{Point, Shape, multipoint, parted}
use Rattle.format.proofs.OrderLaws.{both_true}
use Rattle.header.specs.declared.bbox.BBoxZ.{BBoxZ}
use Rattle.layouts.specs.declared.LayoutError.{LayoutError}
use Rattle.layouts.specs.Answers.{agree, body_size, layout_of, said_layout, WritesBody}
use Rattle.layouts.specs.Tables.{bits, points_of, split_by, measure_of, box_of, several_of, points_lent}
use Rattle.layouts.proofs.JudgeLaws.{layout_is}
use Rattle.layouts.proofs.TableLaws.{parts_are, multipoint_are}
use Rattle.apart.specs.OldWriting as Old
use Rattle.apart.specs.Pairs.{all_x, all_y, together}
use Rattle.apart.proofs.Lists.{length-x, length-y, x-back, y-back}
use Rattle.apart.proofs.Tests.{among}

-- ---- the shape

pub points_apart : (xy : List Float) → Old.points_of xy ≡ points_of (all_x xy) (all_y xy)
points_apart [] = refl
points_apart (x ∷ []) = refl
points_apart (x ∷ y ∷ xy) = ap (◌∷◌ (record { x = bits x; y = bits y })) (points_apart xy)

pub shape_apart : (parts z m : Bool) (b : BBoxZ) (counts : List ℕ) (xy zs ms : List Float) → Old.several_of parts z m b counts xy zs ms ≡ several_of parts z m b counts (all_x xy) (all_y xy) zs ms
shape_apart true z m b counts xy zs ms =
    ap (λ (ps : List Point). parted (record { box = box_of b; parts = split_by counts ps; z = measure_of z b.zmin b.zmax zs; m = measure_of m b.mmin b.mmax ms })) (points_apart xy)
    ∙ ap parted (sym (parts_are z m b counts (all_x xy) (all_y xy) zs ms))
shape_apart false z m b counts xy zs ms =
    ap (λ (ps : List Point). multipoint (record { box = box_of b; points = ps; z = measure_of z b.zmin b.zmax zs; m = measure_of m b.mmin b.mmax ms })) (points_apart xy)
    ∙ ap multipoint (sym (multipoint_are z m b (all_x xy) (all_y xy) zs ms))

-- ---- the lengths

-- 2n entries are n of x and n of y
pairs_test : (xy : List Float) (n : ℕ) → eqb (length xy) (2 * n) ≡ (eqb (length (all_x xy)) n && eqb (length (all_y xy)) n)
pairs_test xy n = by (eqb (length xy) (2 * n)) refl
  where
    by : (t : Bool) → eqb (length xy) (2 * n) ≡ t → t ≡ (eqb (length (all_x xy)) n && eqb (length (all_y xy)) n)
    by true e =
        let h = eqb-true (length xy) (2 * n) e in
        rw (eq-eqb (length (all_x xy)) n (omega (arith, length-x xy)), eq-eqb (length (all_y xy)) n (omega (arith, length-y xy)))
    by false e = no (eqb (length (all_x xy)) n) (eqb (length (all_y xy)) n) refl refl
      where
        no : (a b : Bool) → eqb (length (all_x xy)) n ≡ a → eqb (length (all_y xy)) n ≡ b → false ≡ (a && b)
        no true true p q = absurd (eqb-false (length xy) (2 * n) e (omega (arith, length-x xy, length-y xy, eqb-true (length (all_x xy)) n p, eqb-true (length (all_y xy)) n q)))
        no true false p q = refl
        no false b p q = refl

-- as many x as there are pairs, where the number of entries is even
pub lent-apart : (parts : Bool) (counts : List ℕ) (xy : List Float) → length xy % 2 ≡ 0 → Old.points_lent parts counts xy ≡ points_lent parts counts (all_x xy)
lent-apart true counts xy e = refl
lent-apart false counts xy e = omega (arith, length-x xy)

-- ---- by the number of entries: even, and the tables speak of as many points; or odd, and they agree in neither form

-- among other tests
pub pairs-among : (xy : List Float) (n : ℕ) (p a b : Bool) → (p && eqb (length xy) (2 * n) && a && b) ≡ (p && eqb (length (all_x xy)) n && eqb (length (all_y xy)) n && a && b)
pairs-among xy n p a b = among p (eqb (length xy) (2 * n)) (eqb (length (all_x xy)) n) (eqb (length (all_y xy)) n) a b (pairs_test xy n)

pub even_among : (xy : List Float) (n : ℕ) (p a b : Bool) → (p && eqb (length xy) (2 * n) && a && b) ≡ true → length xy % 2 ≡ 0
even_among xy n p a b e =
    let h = eqb-true (length xy) (2 * n) (both_true p (eqb (length xy) (2 * n)) (both_true _ a (both_true _ b e).0).0).1 in
    omega arith

none-agree : (p a b : Bool) → (p && false && a && b) ≡ false
none-agree true a b = refl
none-agree false a b = refl

module _ (parts z m : Bool) (counts : List ℕ) (xy zs ms : List Float) where
  -- the tables agree on n points
  abbrev on : ℕ → Bool
  on n = (parts || eqb (length counts) 0) && eqb (length xy) (2 * n) && eqb (length zs) (cond z n 0) && eqb (length ms) (cond m n 0)

  abbrev n : ℕ
  n = points_lent parts counts (all_x xy)

  agree_on : on n ≡ agree parts z m counts (all_x xy) (all_y xy) zs ms
  agree_on = pairs-among xy n (parts || eqb (length counts) 0) (eqb (length zs) (cond z n 0)) (eqb (length ms) (cond m n 0))

  odd_agree : (length xy % 2 ≡ 0 → ⊥) → (k : ℕ) → on k ≡ false
  odd_agree h k = rw (ne_eqb (length xy) (2 * k) (λ e. h (omega arith))) (none-agree (parts || eqb (length counts) 0) (eqb (length zs) (cond z k 0)) (eqb (length ms) (cond m k 0)))

  pub even_agreed : Old.agree parts z m counts xy zs ms ≡ true → length xy % 2 ≡ 0
  even_agreed e =
      let k = Old.points_lent parts counts xy in
      even_among xy k (parts || eqb (length counts) 0) (eqb (length zs) (cond z k 0)) (eqb (length ms) (cond m k 0)) e

  pub agree_apart : Old.agree parts z m counts xy zs ms ≡ agree parts z m counts (all_x xy) (all_y xy) zs ms
  agree_apart = by (eqb (length xy % 2) 0) refl
    where
      by : (t : Bool) → eqb (length xy % 2) 0 ≡ t → Old.agree parts z m counts xy zs ms ≡ agree parts z m counts (all_x xy) (all_y xy) zs ms
      by true e = ap on (lent-apart parts counts xy (eqb-true (length xy % 2) 0 e)) ∙ agree_on
      by false e =
          let odd = eqb-false (length xy % 2) 0 e in
          odd_agree odd (Old.points_lent parts counts xy) ∙ (sym (odd_agree odd n) ∙ agree_on)

  -- so what is asked of n once they agree is asked of the same n
  where_agreed : {A : Type 0} (f : ℕ → A) (a : A) → cond (Old.agree parts z m counts xy zs ms) (f (Old.points_lent parts counts xy)) a ≡ cond (agree parts z m counts (all_x xy) (all_y xy) zs ms) (f n) a
  where_agreed f a = by (eqb (length xy % 2) 0) refl
    where
      by : (t : Bool) → eqb (length xy % 2) 0 ≡ t → cond (Old.agree parts z m counts xy zs ms) (f (Old.points_lent parts counts xy)) a ≡ cond (agree parts z m counts (all_x xy) (all_y xy) zs ms) (f n) a
      by true e = ap₂ (λ (t : Bool) (k : ℕ). cond t (f k) a) agree_apart (lent-apart parts counts xy (eqb-true (length xy % 2) 0 e))
      by false e =
          let odd = eqb-false (length xy % 2) 0 e in
          ap (λ (t : Bool). cond t (f (Old.points_lent parts counts xy)) a) (odd_agree odd (Old.points_lent parts counts xy))
          ∙ ap (λ (t : Bool). cond t (f n) a) (sym (odd_agree odd n) ∙ agree_on)

  layout_apart : (room : ℕ) → Old.layout_of parts z m counts xy zs ms room ≡ layout_of parts z m counts (all_x xy) (all_y xy) zs ms room
  layout_apart room =
      let size : ℕ → ℕ = body_size parts z m (length counts) in
      where_agreed (λ k. cond (ltb (length counts) (2 ^ 31) && ltb k (2 ^ 31)) (cond (leb (size k) room) (gives (size k)) (room_bytes (size k))) long) tables
      ∙ sym (layout_is parts z m counts (all_x xy) (all_y xy) zs ms room)

-- ---- the answer and the output

module _ (parts z m : Bool) (b : BBoxZ) (counts : List ℕ) where
  pub body_apart : (xy zs ms : List Float) (out : List ℕ) (r : Result ℕ LayoutError) (out' : List ℕ) → Old.WritesBody parts z m b counts xy zs ms out r out' → WritesBody parts z m b counts (all_x xy) (all_y xy) zs ms out r out'
  body_apart xy zs ms out r out' h =
      record {
        says = h.says ∙ layout_apart parts z m counts xy zs ms (length out);
        out_is = h.out_is ∙ ap (λ (s : Shape). unless_refused (said_layout r) out (sets out 0 (shape_bytes s))) (shape_apart parts z m b counts xy zs ms);
      }

  pub body_together : (xs ys zs ms : List Float) (out : List ℕ) (r : Result ℕ LayoutError) (out' : List ℕ) → length xs ≡ length ys → WritesBody parts z m b counts xs ys zs ms out r out' → Old.WritesBody parts z m b counts (together xs ys) zs ms out r out'
  body_together xs ys zs ms out r out' e h =
      let x = x-back xs ys e in
      let y = y-back xs ys e in
      record {
        says = h.says ∙ sym (layout_apart parts z m counts (together xs ys) zs ms (length out) ∙ (λ i. layout_of parts z m counts (x i) (y i) zs ms (length out)));
        out_is = h.out_is ∙ ap (λ (s : Shape). unless_refused (said_layout r) out (sets out 0 (shape_bytes s))) (sym (shape_apart parts z m b counts (together xs ys) zs ms ∙ (λ i. several_of parts z m b counts (x i) (y i) zs ms)));
      }
