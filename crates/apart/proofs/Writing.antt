-- Writing: bodies, and records, whose answer, bytes, entry and next state are the same.
use mathlib.Core.Path.{◌≡◌, refl, sym, ap, ◌∙◌}
use mathlib.Core.Bool.{Bool, true, false, cond, ◌&&◌}
use mathlib.Core.List.{List, [], ◌∷◌}
use Prim.Native.Nat.{ℕ, ◌+◌, ◌*◌, ◌-◌, ◌%◌, ◌^◌, min}
use lib.Dec.{eqb, leb, ltb}
use lib.Ieee.{Float}
use lib.IntN.{pos, nat_abs}
use lib.ListN.{length}
use lib.Seq.{sets}
use Rattle.format.specs.declared.kinds.Kind.{Kind}
use Rattle.format.specs.Encoding.{shape_words, record_bytes, entry_bytes}
use Rattle.format.specs.Lengths.{Form, nothing, one_point, many_points}
use Rattle.format.specs.Lengths
use Rattle.format.specs.Order.{first}
use Rattle.format.specs.Said.{Said, gives, tables, long, room_bytes, unless_refused}
use Rattle.format.specs.Shapes.{Shape, points_in}
use Rattle.format.proofs.OrderLaws.{first-append}
use Rattle.header.specs.declared.bbox.BBoxZ.{BBoxZ}
use Rattle.boxes.specs.Boxes.{grown, flat, point_box}
use Rattle.writer.specs.declared.State.{State}
use Rattle.writer.specs.declared.Adding.{Adding}
use Rattle.writer.specs.Adding.{Lent, lent_kind, lent_form, point_shape, lent_shape, lent_agree, record_size, kind_tests, shape_tests, kind_then, box_then, held_box, next_state, adding_of, said_add, Adds}
use Rattle.writer.proofs.Accepted.{adding-is}
use Rattle.writer.proofs.NextLaws.{next_is}
use Rattle.writer.proofs.ShapeLaws.{lent_nothing, lent-point, lent-several}
use Rattle.layouts.specs.Answers.{counts_held}
use Rattle.apart.specs.Apart.{lent_apart, lent_together, Writing}
use Rattle.apart.specs.OldAdding as Old
use Rattle.apart.specs.OldWriting
use Rattle.apart.specs.Pairs.{all_x, all_y}
use Rattle.apart.proofs.Lists.{x-back, y-back}
use Rattle.apart.proofs.Layouts.{shape_apart, lent-apart, even_among, even_agreed, agree_apart, pairs-among, body_apart, body_together}

-- ---- one point

point-shape : (k : Kind) (xy zs ms : List Float) → Old.point_shape k xy zs ms ≡ point_shape k (all_x xy) (all_y xy) zs ms
point-shape k [] zs ms = refl
point-shape k (x ∷ []) zs ms = refl
point-shape k (x ∷ y ∷ xy) zs ms = refl

point-box : (xy zs ms : List Float) → Old.point_box xy zs ms ≡ point_box (all_x xy) (all_y xy) zs ms
point-box [] zs ms = refl
point-box (x ∷ []) zs ms = refl
point-box (x ∷ y ∷ xy) zs ms = refl

module _ (t : Old.Lent) where
  abbrev u : Lent
  u = lent_apart t

  -- ---- what is lent, by its form

  shape-by : (f : Form) → lent_form u ≡ f → Old.shape_by f t ≡ lent_shape u
  shape-by nothing e = sym (lent_nothing u e)
  shape-by one_point e = point-shape (lent_kind u) t.xy t.zs t.ms ∙ sym (lent-point u e)
  shape-by many_points e = shape_apart false (lent_kind u).z (lent_kind u).m t.box t.counts t.xy t.zs t.ms ∙ sym (lent-several u false e)
  shape-by Lengths.parts e = shape_apart true (lent_kind u).z (lent_kind u).m t.box t.counts t.xy t.zs t.ms ∙ sym (lent-several u true e)

  shape_same : Old.lent_shape t ≡ lent_shape u
  shape_same = shape-by (lent_form u) refl

  agree-by : (f : Form) → lent_form u ≡ f → Old.agree_by f t ≡ lent_agree u
  agree-by nothing e = rw e (pairs-among t.xy 0 (eqb (length t.counts) 0) (eqb (length t.zs) 0) (eqb (length t.ms) 0))
  agree-by one_point e =
      rw e (pairs-among t.xy 1 (eqb (length t.counts) 0) (eqb (length t.zs) (cond (lent_kind u).z 1 0)) (eqb (length t.ms) (cond (lent_kind u).m 1 0)))
  agree-by many_points e = rw e (agree_apart false (lent_kind u).z (lent_kind u).m t.counts t.xy t.zs t.ms)
  agree-by Lengths.parts e = rw e (agree_apart true (lent_kind u).z (lent_kind u).m t.counts t.xy t.zs t.ms)

  agree_same : Old.lent_agree t ≡ lent_agree u
  agree_same = agree-by (lent_form u) refl

  -- where they agree there is an even number of entries
  even_by : (f : Form) → Old.agree_by f t ≡ true → length t.xy % 2 ≡ 0
  even_by nothing e = even_among t.xy 0 (eqb (length t.counts) 0) (eqb (length t.zs) 0) (eqb (length t.ms) 0) e
  even_by one_point e =
      even_among t.xy 1 (eqb (length t.counts) 0) (eqb (length t.zs) (cond (lent_kind u).z 1 0)) (eqb (length t.ms) (cond (lent_kind u).m 1 0)) e
  even_by many_points e = even_agreed false (lent_kind u).z (lent_kind u).m t.counts t.xy t.zs t.ms e
  even_by Lengths.parts e = even_agreed true (lent_kind u).z (lent_kind u).m t.counts t.xy t.zs t.ms e

  -- ---- what is said

  module _ (s : State) (out start entry : ℕ) where
    -- 10, 7 and 6, by whether the tables agree, whether an i32 holds the counts, and the shape
    abbrev said : Bool → Bool → Shape → Said ℕ
    said agrees held shape =
        let size : ℕ = 8 + 2 * shape_words shape in
        cond agrees
        (cond (held && ltb (nat_abs s.words.0 + (4 + shape_words shape)) (2 ^ 31))
        (cond (leb (start + size) out) (cond (leb 8 entry) (gives size) (room_bytes 8)) (room_bytes (min (start + size) (2 ^ 64 - 1))))
        long)
        tables

    said_by : (b : Bool) → Old.lent_agree t ≡ b → said b (OldWriting.counts_held (lent_kind u).parts t.counts t.xy) (Old.lent_shape t) ≡ said b (counts_held (lent_kind u).parts t.counts u.xs) (lent_shape u)
    said_by true e =
        let n = lent-apart (lent_kind u).parts t.counts t.xy (even_by (lent_form u) e) in
        λ i. said true (ltb (length t.counts) (2 ^ 31) && ltb (n i) (2 ^ 31)) (shape_same i)
    said_by false e = refl

    adding_same : Old.adding_of s t out start entry ≡ adding_of s u out start entry
    adding_same =
        first-append (kind_tests s t.code) (Old.shape_tests s t out start entry) (gives (Old.record_size t))
        ∙ (ap (first (kind_tests s t.code))
        (said_by (Old.lent_agree t) refl ∙ ap (λ (b : Bool). said b (counts_held (lent_kind u).parts t.counts u.xs) (lent_shape u)) agree_same)
        ∙ sym (adding-is s u out start entry ∙ first-append (kind_tests s t.code) (shape_tests s u out start entry) (gives (record_size u))))

  -- ---- the next state

  module _ (s : State) where
    kind-by : (f : Form) → Old.kind_then f s t ≡ kind_then f s u
    kind-by nothing = refl
    kind-by one_point = refl
    kind-by many_points = refl
    kind-by Lengths.parts = refl

    box-by : (f : Form) → Old.box_then f s t ≡ box_then f s u
    box-by nothing = refl
    box-by one_point = ap (λ (b : BBoxZ). grown (flat (lent_kind u) b) (held_box s)) (point-box t.xy t.zs t.ms)
    box-by many_points = refl
    box-by Lengths.parts = refl

    next_same : Old.next_state s t ≡ next_state s u
    next_same =
        let k = kind-by (lent_form u) in
        let b = box-by (lent_form u) in
        (λ i.
        record {
          words = record { 0 = pos (nat_abs s.words.0 + (4 + shape_words (shape_same i))) };
          number = pos (nat_abs s.number + 1);
          kind = k i;
          points = s.points + points_in (shape_same i);
          bbox = b i;
        })
        ∙ sym (next_is s u)

-- ---- the theorems

record_apart : (s : State) (t : Old.Lent) (out : List ℕ) (start : ℕ) (entry : List ℕ) (r : Adding) (out' entry' : List ℕ) → Old.Adds s t out start entry r out' entry' → Adds s (lent_apart t) out start entry r out' entry'
record_apart s t out start entry r out' entry' h =
    let answer = said_add r.answer in
    let k = lent_kind (lent_apart t) in
    let n = nat_abs s.number in
    let w = nat_abs s.words.0 in
    record {
      says = h.says ∙ adding_same t s (length out) start (length entry);
      state_is = h.state_is ∙ ap (unless_refused answer s) (next_same t s);
      out_is = h.out_is ∙ ap (λ (shape : Shape). unless_refused answer out (sets out start (record_bytes k n shape))) (shape_same t);
      entry_is = h.entry_is ∙ ap (λ (shape : Shape). unless_refused answer entry (sets entry 0 (entry_bytes (record { offset = w; words = shape_words shape })))) (shape_same t);
    }

-- tables of x and y that are as long as each other are those of their pairs
lent_back : (t : Lent) → length t.xs ≡ length t.ys → lent_apart (lent_together t) ≡ t
lent_back t e =
    let x = x-back t.xs t.ys e in
    let y = y-back t.xs t.ys e in
    λ i. record { code = t.code; box = t.box; counts = t.counts; xs = x i; ys = y i; zs = t.zs; ms = t.ms }

record_together : (s : State) (t : Lent) (out : List ℕ) (start : ℕ) (entry : List ℕ) (r : Adding) (out' entry' : List ℕ) → length t.xs ≡ length t.ys → Adds s t out start entry r out' entry' → Old.Adds s (lent_together t) out start entry r out' entry'
record_together s t out start entry r out' entry' e h =
    let answer = said_add r.answer in
    let k = lent_kind t in
    let n = nat_abs s.number in
    let w = nat_abs s.words.0 in
    let back = lent_back t e in
    let shape : lent_shape t ≡ Old.lent_shape (lent_together t) = sym (shape_same (lent_together t) ∙ ap lent_shape back) in
    record {
      says = h.says ∙ sym (adding_same (lent_together t) s (length out) start (length entry) ∙ ap (λ (u : Lent). adding_of s u (length out) start (length entry)) back);
      state_is = h.state_is ∙ ap (unless_refused answer s) (sym (next_same (lent_together t) s ∙ ap (next_state s) back));
      out_is = h.out_is ∙ ap (λ (shape : Shape). unless_refused answer out (sets out start (record_bytes k n shape))) shape;
      entry_is = h.entry_is ∙ ap (λ (shape : Shape). unless_refused answer entry (sets entry 0 (entry_bytes (record { offset = w; words = shape_words shape })))) shape;
    }

pub writing : Writing
writing = record { body_apart = body_apart; body_together = body_together; record_apart = record_apart; record_together = record_together }
