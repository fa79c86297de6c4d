-- At each record what is left to do decides as the whole does: by the laws of a record (WalkLaws), and in its loops by those of a turn (TurnLaws).
use mathlib.Core.Path.{◌≡◌, sym, ap, ◌∙◌}
use mathlib.Core.Bool.{Bool, true, false, cond}
use mathlib.Core.List.{List}
use Prim.Native.Nat.{ℕ, ◌+◌, ◌*◌, ◌-◌, ◌≤◌}
use native.Mathlib.Omega.{arith}
use lib.Dec.{lit≤}
use lib.IntN.{nat_abs}
use lib.ListN.{length, take, drop, length-drop}
use lib.Seq.{drop-drop}
use Rattle.std.proofs.lemmas.List.{take_rest}
use Rattle.format.specs.Said.{Said}
use Rattle.rules.specs.Rules.{Counts, big_at, finites, parts_long, rings_closed, P13, none_yet, walk_from}
use Rattle.rules.proofs.WalkLaws.{left_over, all_behind}
use Rattle.pair.specs.declared.plans.Plan.{Plan}
use Rattle.pair.specs.Plans.{Field, field_words, Whole, taken_from}
use Rattle.pair.specs.Verdicts.{head_fault}
use Rattle.pair.proofs.FoundLaws.{found_none}
use Rattle.pair.proofs.PlanLaws.{front_of, owned}
use Rattle.pair.proofs.TurnLaws.{finites_go, finites_no, finites_done, parts_go, parts_no, parts_done, rings_go, rings_no, rings_done, ring, others}
use Rattle.pair.proofs.UnitLaws.{field-whole, field_count}
use Rattle.pair.proofs.WalkLaws.{counts, Open, Within, within, counted, front_flags, parted-several, Here, Fit, fit, parts-room, no_head, no13, long_rings, few_rings, no14_first, no14, no15, no16_box, no16, next}
use Rattle.pair.proofs.walk.Goals.{In-Ok, After-or_null-own, Else-not-sized, After-points_of-n, Else-not-begins, After-loop-part, After-rings_of-rings, After-loop-ring, After-loop-corner}
use Rattle.pair.proofs.walk.Goals as goal

-- ---- the bytes from the record on and the index from its entry on, as the code has them

abbrev behind : ℕ → List ℕ → List ℕ
behind at s = take (length s - at) (drop at s)

longer : (at : ℕ) (s : List ℕ) → length (behind at s) ≡ length s - at
longer at s = rw (take_rest, length-drop)

abbrev whole : Plan → List ℕ → List ℕ → Said Counts
whole plan shp shx = walk_from (taken_from plan) (drop 100 shp) (drop 100 shx) 100 none_yet

-- ---- a record whose head has no fault, its own plan, and its counts

told : (c : In-Ok)
    → (0 ≡ head_fault c.args.plan.kind (behind c.walk.at c.args.shp.now) (behind c.walk.ix c.args.shx.now) c.walk.at (c.walk.totals.records + 1))
    × (c.in-Ok.words ≡ field_words (big_at 4 (behind c.walk.at c.args.shp.now)))
told c = found_none _ _ _ _ (sym c.in-Ok.is ∙ c.check_head.ensures)

headed : (c : In-Ok) → Within (behind c.walk.at c.args.shp.now) (behind c.walk.ix c.args.shx.now)
headed c = within c.args.plan.kind (behind c.walk.at c.args.shp.now) (behind c.walk.ix c.args.shx.now) c.walk.at (c.walk.totals.records + 1) (told c).0

-- its words, as the code has them
worded : (c : In-Ok) → Field (big_at 4 (behind c.walk.at c.args.shp.now)) c.in-Ok.words
worded c = record { value = (told c).1; small = omega (arith, (headed c).held) }

opened : (c : After-or_null-own) → Open c.args.plan c.or_null-own.result (behind c.walk.at c.args.shp.now) (behind c.walk.ix c.args.shx.now) c.walk.at c.walk.totals.records
opened c =
    record {
      inside = omega (arith, longer c.walk.at c.args.shp.now, c.if-at-shp.false);
      hd = (told (goal.at.sized-requires c).In-Ok).0;
      owned = owned c.args.plan c.args.null c.or_null-own.result c.requires.0 c.requires.1 c.requires.2 (behind c.walk.at c.args.shp.now) c.or_null-own.ensures;
    }

walked : (c : In-Ok)
    → walk_from (taken_from c.args.plan) (behind c.walk.at c.args.shp.now) (behind c.walk.ix c.args.shx.now) c.walk.at (counts c.walk.totals.records c.walk.totals.parts c.walk.totals.points)
    ≡ whole c.args.plan c.args.shp.now c.args.shx.now
walked c = rw (take_rest c.args.shp.now c.walk.at, take_rest c.args.shx.now c.walk.ix) c.walk.invariant.rest

-- its length is one that its counts give
fits : (c : Else-not-sized) → P13 (taken_from c.or_null-own.result) (behind c.walk.at c.args.shp.now) ≡ true
fits c = sym c.sized.ensures ∙ c.if-not-sized.false

-- and where it has several points, there is room for them
some-front : (b m : Bool) → m ≡ true → 20 ≤ front_of b m
some-front true m e = omega arith
some-front false m e = rw e (lit≤ tt)

severaled : (c : Else-not-sized) → c.or_null-own.result.several ≡ true → 48 ≤ length (behind c.walk.at c.args.shp.now)
severaled c e =
    let v = goal.at.parts_of-p-requires c in
    let o = opened v.After-or_null-own in
    let own = c.or_null-own.result in
    omega (arith, (headed v.In-Ok).within, counted o (fits c) e, front_flags o, some-front own.parts own.several e)

parted : (c : Else-not-sized) → c.or_null-own.result.parts ≡ true → 52 ≤ length (behind c.walk.at c.args.shp.now)
parted c e =
    let v = goal.at.parts_of-p-requires c in
    let o = opened v.After-or_null-own in
    let f : c.or_null-own.result.front ≡ 22 = front_flags o ∙ rw e in
    omega (arith, (headed v.In-Ok).within, counted o (fits c) (parted-several o e), f)

here : (c : After-points_of-n)
    → Here c.args.plan c.or_null-own.result (behind c.walk.at c.args.shp.now) (behind c.walk.ix c.args.shx.now) c.walk.at c.walk.totals.records c.walk.totals.parts c.walk.totals.points c.parts_of-p.result c.points_of-n.result (whole c.args.plan c.args.shp.now c.args.shx.now)
here c =
    let v = goal.at.begins-requires c in
    record {
      opened = opened v.After-or_null-own;
      sized = fits v.Else-not-sized;
      pe = c.parts_of-p.ensures.value;
      ne = c.points_of-n.ensures;
      rest = walked v.In-Ok;
    }

fitted : (c : After-points_of-n) → Fit c.or_null-own.result (behind c.walk.at c.args.shp.now) (behind c.walk.ix c.args.shx.now) (big_at 4 (behind c.walk.at c.args.shp.now)) c.parts_of-p.result c.points_of-n.result
fitted c = fit (here c)

-- the number of its words
words_are : (c : After-points_of-n) → nat_abs c.in-Ok.words.0 ≡ big_at 4 (behind c.walk.at c.args.shp.now)
words_are c = field_count _ _ (worded (goal.at.begins-requires c).In-Ok) (fitted c).held

words-whole : (c : After-points_of-n) → Whole c.in-Ok.words
words-whole c = field-whole _ _ (worded (goal.at.begins-requires c).In-Ok) (fitted c).held

-- ---- what holds behind each of its loops

lengthy : (c : After-loop-part) → parts_long c.or_null-own.result.least c.parts_of-p.result 56 0 c.points_of-n.result (behind c.walk.at c.args.shp.now) ≡ true
lengthy c = sym c.loop-part.invariant.1 ∙ parts_done _ _ _ _ _ c.loop-part-test.false _

few : (c : After-rings_of-rings) → c.rings_of-rings.result ≤ c.parts_of-p.result
few c = rw c.rings_of-rings.ensures (few_rings c.or_null-own.result.rings c.parts_of-p.result)

all_closed : (c : After-loop-ring)
    → rings_closed (8 + 2 * (c.or_null-own.result.front + 2 * c.parts_of-p.result)) (cond c.or_null-own.result.rings c.parts_of-p.result 0) 56 0 c.points_of-n.result (behind c.walk.at c.args.shp.now)
    ≡ true
all_closed c = rw (← c.rings_of-rings.ensures) (sym c.loop-ring.invariant.1 ∙ rings_done _ _ _ _ _ c.loop-ring-test.false _)

corners-fine : (c : After-loop-corner) → finites (cond c.or_null-own.result.several 4 0) 12 (behind c.walk.at c.args.shp.now) ≡ true
corners-fine c = rw (← c.box_doubles-corner-end.ensures) (sym c.loop-corner.invariant ∙ finites_done _ _ _ _ c.loop-corner-test.false)

-- ---- what the code asks

pub or_null-own-requires : goal.or_null-own-requires
or_null-own-requires c = omega (arith, headed c)

pub sized-requires : goal.sized-requires
sized-requires c = let v = (goal.at.sized-requires c).In-Ok in let h = headed v in ((opened c).owned.is, h.within, h.held, worded v)

pub parts_of-p-requires : goal.parts_of-p-requires
parts_of-p-requires c = parted (goal.at.parts_of-p-requires c).Else-not-sized

pub points_of-n-requires : goal.points_of-n-requires
points_of-n-requires c = let v = (goal.at.points_of-n-requires c).Else-not-sized in (parted v, severaled v)

pub begins-requires : goal.begins-requires
begins-requires c = λ e. omega (arith, parts-room (here c) e, fitted c)

pub end_of-end-requires : goal.end_of-end-requires
end_of-end-requires c =
    let f = fitted (goal.at.end_of-end-requires c).After-points_of-n in
    let t = c.loop-part-test.true in
    let r = f.in_parts (omega arith) in
    (t, omega (arith, r.1, f.within), omega (arith, f.few_points, f.held))

pub overflow_add-least_end : goal.overflow_add-least_end
overflow_add-least_end c = omega (arith, c.end_of-end.ensures.small, (fitted (goal.at.overflow_add-least_end c).After-points_of-n).least_few)

pub loop-part-preserved : goal.loop-part-preserved
loop-part-preserved c =
    let e = c.end_of-end in
    let l = c.loop-part in
    let s : e.result + c.or_null-own.result.least - c.or_null-own.result.least ≡ e.result = omega arith in
    (omega arith, rw s (parts_go _ _ _ _ _ _ c.loop-part-test.true e.ensures.value _ (omega (arith, l.invariant.0, c.if-end-least_end.false)) ∙ l.invariant.1))

pub overflow_add-front : goal.overflow_add-front
overflow_add-front c = let f = fitted (goal.at.overflow_add-front c).After-points_of-n in omega (arith, f.in_front, f.held)

pub overflow_mul-pairs : goal.overflow_mul-pairs
overflow_mul-pairs c = let f = fitted (goal.at.overflow_mul-pairs c).After-points_of-n in omega (arith, f.in_front, f.held)

pub overflow_add-pairs : goal.overflow_add-pairs
overflow_add-pairs c = let f = fitted (goal.at.overflow_add-pairs c).After-points_of-n in omega (arith, f.in_front, f.held)

pub loop-ring-init : goal.loop-ring-init
loop-ring-init c =
    let own = c.or_null-own.result in
    let z : c.rings_of-rings.result - 0 ≡ c.rings_of-rings.result = omega arith in
    (rw (z, c.rings_of-rings.ensures) (long_rings own.rings _ c.points_of-n.result own.least 56 0 c.parts_of-p.result (lengthy (goal.at.loop-ring-init c).After-loop-part)), rw z)

pub end_of-end-requires-in-loop-ring : goal.end_of-end-requires-in-loop-ring
end_of-end-requires-in-loop-ring c =
    let v = goal.at.end_of-end-requires-in-loop-ring c in
    let f = fitted v.After-points_of-n in
    let t = c.loop-ring-test.true in
    let l = few v.After-rings_of-rings in
    let r = f.in_parts (omega arith) in
    (t, omega (arith, r.1, f.within), omega (arith, f.few_points, f.held))

pub closed-requires : goal.closed-requires
closed-requires c =
    let v = goal.at.closed-requires c in
    let f = fitted v.After-points_of-n in
    let t = c.loop-ring-test.true in
    let l = few v.After-rings_of-rings in
    let r = f.in_parts (omega arith) in
    let q = ring _ _ _ _ _ _ t c.end_of-end-in-loop-ring.ensures.value _ c.loop-ring.invariant.0 in
    (omega (arith, q.long, f.least_some), omega (arith, q.within, r.0, r.1, f.within))

pub loop-ring-preserved : goal.loop-ring-preserved
loop-ring-preserved c =
    let t = c.loop-ring-test.true in
    let e = c.end_of-end-in-loop-ring.ensures.value in
    (others _ _ _ _ _ _ t e _ c.loop-ring.invariant.0, rings_go _ _ _ _ _ _ t e _ (sym c.closed.ensures ∙ c.if-not-closed.false) ∙ c.loop-ring.invariant.1)

pub is_finite-requires : goal.is_finite-requires
is_finite-requires c =
    let f = fitted (goal.at.is_finite-requires c).After-points_of-n in
    omega (arith, f.in_box, f.within, c.box_doubles-corner-end.ensures, c.loop-corner-test.true)

pub loop-corner-preserved : goal.loop-corner-preserved
loop-corner-preserved c =
    finites_go _ _ _ _ c.loop-corner-test.true (sym c.is_finite.ensures ∙ c.if-not-is_finite.false) ∙ c.loop-corner.invariant

pub doubles_behind-double-end-requires : goal.doubles_behind-double-end-requires
doubles_behind-double-end-requires c =
    let v = (goal.at.doubles_behind-double-end-requires c).After-points_of-n in
    (words-whole v, omega (arith, words_are v, (fitted v).in_front))

pub is_finite-requires-in-loop-double : goal.is_finite-requires-in-loop-double
is_finite-requires-in-loop-double c =
    let v = (goal.at.is_finite-requires-in-loop-double c).After-points_of-n in
    let f = fitted v in
    omega (arith, words_are v, f.in_front, f.within, c.doubles_behind-double-end.ensures, c.loop-double-test.true)

pub loop-double-preserved : goal.loop-double-preserved
loop-double-preserved c =
    finites_go _ _ _ _ c.loop-double-test.true (sym c.is_finite-in-loop-double.ensures ∙ c.if-not-is_finite-2.false) ∙ c.loop-double.invariant

pub in_bytes-requires : goal.in_bytes-requires
in_bytes-requires c = words-whole (goal.at.in_bytes-requires c).After-points_of-n

-- ---- the next record

further : (at n : ℕ) (s : List ℕ) → drop n (behind at s) ≡ drop (at + n) s
further at n s = rw (take_rest, drop-drop)

pub walk-preserved : goal.walk-preserved
walk-preserved c =
    let v = goal.at.walk-preserved c in
    let f = fitted v.After-points_of-n in
    let w = c.walk.invariant in
    let is : c.in_bytes.result ≡ 2 * big_at 4 (behind c.walk.at c.args.shp.now) = c.in_bytes.ensures ∙ ap (λ (n : ℕ). 2 * n) (words_are v.After-points_of-n) in
    record {
      low = omega (arith, f.within, is, longer c.walk.at c.args.shp.now);
      xlow = omega (arith, f.entry, longer c.walk.ix c.args.shx.now);
      few = omega (arith, w.few);
      few_parts = omega (arith, w.few_parts, f.few_parts, is);
      few_points = omega (arith, w.few_points, f.few_points, is);
      rest =
          rw (is, ← further c.walk.at (8 + 2 * big_at 4 (behind c.walk.at c.args.shp.now)) c.args.shp.now, ← further c.walk.ix 8 c.args.shx.now)
          (next (here v.After-points_of-n) (sym c.begins.ensures ∙ c.if-not-begins.false) (lengthy v.After-loop-part) (all_closed v.After-loop-ring) (corners-fine v.After-loop-corner)
          (rw (← words_are v.After-points_of-n, ← c.doubles_behind-double-end.ensures) (sym c.loop-double.invariant ∙ finites_done _ _ _ _ c.loop-double-test.false)));
    }

-- ---- the answers

pub returns-then-ix-shx : goal.returns-then-ix-shx
returns-then-ix-shx c = sym (left_over _ c.args.shp.now c.args.shx.now c.walk.at c.walk.ix _ c.if-at-shp.true c.if-ix-shx.true) ∙ c.walk.invariant.rest

pub returns-else-ix-shx : goal.returns-else-ix-shx
returns-else-ix-shx c = sym (all_behind _ c.args.shp.now c.args.shx.now c.walk.at c.walk.ix _ c.if-at-shp.true c.if-ix-shx.false) ∙ c.walk.invariant.rest

pub returns-in-Err : goal.returns-in-Err
returns-in-Err c =
    let t = c.walk.totals in
    sym (no_head (taken_from c.args.plan) (behind c.walk.at c.args.shp.now) (behind c.walk.ix c.args.shx.now) c.walk.at t.records t.parts t.points c.in-Err.fault (omega (arith, longer c.walk.at c.args.shp.now, c.if-at-shp.false)) (sym c.in-Err.is ∙ c.check_head.ensures))
    ∙ rw (take_rest c.args.shp.now c.walk.at, take_rest c.args.shx.now c.walk.ix) c.walk.invariant.rest

pub returns-then-not-sized : goal.returns-then-not-sized
returns-then-not-sized c =
    let v = goal.at.returns-then-not-sized c in
    let t = c.walk.totals in
    no13 (opened v.After-or_null-own) t.parts t.points (walked v.In-Ok) (sym c.sized.ensures ∙ c.if-not-sized.true)

pub returns-then-not-begins : goal.returns-then-not-begins
returns-then-not-begins c = no14_first (here (goal.at.returns-then-not-begins c).After-points_of-n) (sym c.begins.ensures ∙ c.if-not-begins.true)

pub returns-then-end-least_end : goal.returns-then-end-least_end
returns-then-end-least_end c =
    no14 (here (goal.at.returns-then-end-least_end c).After-points_of-n) (sym c.begins.ensures ∙ c.if-not-begins.false)
    (sym c.loop-part.invariant.1 ∙ parts_no _ _ _ _ _ _ c.loop-part-test.true c.end_of-end.ensures.value _ (omega (arith, c.loop-part.invariant.0, c.if-end-least_end.true)))

pub returns-then-not-closed : goal.returns-then-not-closed
returns-then-not-closed c =
    let v = goal.at.returns-then-not-closed c in
    no15 (here v.After-points_of-n) (sym c.begins.ensures ∙ c.if-not-begins.false) (lengthy v.After-loop-part)
    (rw (← c.rings_of-rings.ensures)
    (sym c.loop-ring.invariant.1 ∙ rings_no _ _ _ _ _ _ c.loop-ring-test.true c.end_of-end-in-loop-ring.ensures.value _ (sym c.closed.ensures ∙ c.if-not-closed.true)))

pub returns-then-not-is_finite : goal.returns-then-not-is_finite
returns-then-not-is_finite c =
    let v = goal.at.returns-then-not-is_finite c in
    no16_box (here v.After-points_of-n) (sym c.begins.ensures ∙ c.if-not-begins.false) (lengthy v.After-loop-part) (all_closed v.After-loop-ring)
    (rw (← c.box_doubles-corner-end.ensures)
    (sym c.loop-corner.invariant ∙ finites_no _ _ _ _ c.loop-corner-test.true (sym c.is_finite.ensures ∙ c.if-not-is_finite.true)))

pub returns-then-not-is_finite-2 : goal.returns-then-not-is_finite-2
returns-then-not-is_finite-2 c =
    let v = goal.at.returns-then-not-is_finite-2 c in
    no16 (here v.After-points_of-n) (sym c.begins.ensures ∙ c.if-not-begins.false) (lengthy v.After-loop-part) (all_closed v.After-loop-ring) (corners-fine v.After-loop-corner)
    (rw (← words_are v.After-points_of-n, ← c.doubles_behind-double-end.ensures)
    (sym c.loop-double.invariant ∙ finites_no _ _ _ _ c.loop-double-test.true (sym c.is_finite-in-loop-double.ensures ∙ c.if-not-is_finite-2.true)))
