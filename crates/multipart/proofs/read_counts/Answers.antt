-- `multipart::read_counts`: past each field the answer is that of the tests that are left.
use Rattle.std.proofs.Common.{arith, rules, w32}
use Rattle.format.proofs.SignLaws.{back}
use Rattle.multipart.proofs.CountLaws.{box_cut, first_cut, points_refused, points_held, second_cut, parts_refused, number_refused, both_held}
use Rattle.multipart.proofs.TestLaws.{told_err}
use Rattle.multipart.proofs.read_counts.Goals as goal

pub returns-in_err-fields_end : goal.returns-in_err-fields_end
returns-in_err-fields_end c = rw (told_err _ _ c.from_residual.ensures.1) (box_cut _ _ _ c.in_err-fields_end.ensures)

pub returns-in_err-first : goal.returns-in_err-first
returns-in_err-first c =
    rw (told_err _ _ c.from_residual-in_err-first.ensures.1) (first_cut _ _ (omega (arith, c.in_ok-fields_end.ensures)) _ c.in_err-first.ensures)

pub returns-in_err-points : goal.returns-in_err-points
returns-in_err-points c =
    let f = c.in_ok-first in
    let e = c.in_err-points.ensures in
    let minus = rw (back w32 f.first (search rules), f.ensures.1) at e.0 in
    rw (told_err _ _ c.from_residual-in_err-points.ensures.1, e.1, c.if-not-parts.true)
    (points_refused _ (omega (arith, c.in_ok-fields_end.ensures)) f.ensures.0 minus)

pub returns-then-not-parts : goal.returns-then-not-parts
returns-then-not-parts c =
    let f = c.in_ok-first in
    let held = rw (back w32 f.first (search rules), f.ensures.1) at c.in_ok-points.ensures in
    rw c.if-not-parts.true (points_held _ (omega (arith, c.in_ok-fields_end.ensures)) f.ensures.0 _ held)

pub returns-in_err-second : goal.returns-in_err-second
returns-in_err-second c =
    rw (told_err _ _ c.from_residual-in_err-second.ensures.1, c.if-not-parts.false)
    (second_cut _ (omega (arith, c.in_ok-fields_end.ensures)) c.in_ok-first.ensures.0 _ c.in_err-second.ensures)

pub returns-in_err-parts : goal.returns-in_err-parts
returns-in_err-parts c =
    let f = c.in_ok-first in
    let e = c.in_err-parts.ensures in
    let minus = rw (back w32 f.first (search rules), f.ensures.1) at e.0 in
    rw (told_err _ _ c.from_residual-in_err-parts.ensures.1, e.1, c.if-not-parts.false)
    (parts_refused _ (omega (arith, c.in_ok-fields_end.ensures)) f.ensures.0 c.in_ok-second.ensures.0 minus)

pub returns-in_err-points-2 : goal.returns-in_err-points-2
returns-in_err-points-2 c =
    let f = c.in_ok-first in
    let g = c.in_ok-second in
    let e = c.in_err-points-2.ensures in
    let held = rw (back w32 f.first (search rules), f.ensures.1) at c.in_ok-parts.ensures in
    let minus = rw (back w32 g.second (search rules), g.ensures.1) at e.0 in
    rw (told_err _ _ c.from_residual-in_err-points-2.ensures.1, e.1, c.if-not-parts.false)
    (number_refused _ (omega (arith, c.in_ok-fields_end.ensures)) f.ensures.0 g.ensures.0 _ held minus)

pub returns : goal.returns
returns c =
    let f = c.in_ok-first in
    let g = c.in_ok-second in
    let p = rw (back w32 f.first (search rules), f.ensures.1) at c.in_ok-parts.ensures in
    let n = rw (back w32 g.second (search rules), g.ensures.1) at c.in_ok-points-2.ensures in
    rw c.if-not-parts.false (both_held _ (omega (arith, c.in_ok-fields_end.ensures)) f.ensures.0 g.ensures.0 _ _ p n)
