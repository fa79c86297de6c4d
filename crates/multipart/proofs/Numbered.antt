-- The refusals of reading the counts, and of reading a body, have document 01's numbers.
use mathlib.Core.Bool.{Bool, true, false}
use mathlib.Core.List.{List, [], ◌∷◌, ◌++◌}
use Prim.Native.Nat.{ℕ, ◌+◌, ◌*◌}
use native.Mathlib.Omega.{arith}
use lib.IntN.{ℤ}
use Rattle.format.specs.Order.{fields_from}
use Rattle.format.specs.Said.{Said, gives, short, Numbered}
use Rattle.format.proofs.OrderLaws.{AllNumbered, first_numbered, append_numbered, fields_numbered}
use Rattle.multipart.specs.declared.Body.{Body}
use Rattle.multipart.specs.declared.Counts.{Counts}
use Rattle.multipart.specs.Answers.{counts_of}
use Rattle.multipart.specs.Body.{parts_in, points_in, pairs_at, z_at, m_at, body_in, count_tests, part_tests, measure_tests, pair_tests, rest_tests, room_tests, body_of}
use Rattle.multipart.specs.Parts.{count_of}

all_counts : (A : Type 0) (parts : Bool) (s : List ℕ) → AllNumbered (count_tests {A = A} parts s)
all_counts A true s = omega arith
all_counts A false s = omega arith

pub counts_numbered : (parts : Bool) (s : List ℕ) → Numbered (counts_of parts s)
unfolding counts_of
counts_numbered parts s = first_numbered {A = Counts} (count_tests parts s) (gives _) (all_counts Counts parts s) tt

parts_numbered : (start at : ℕ) (ds : List ℤ) (s : List ℕ) → AllNumbered (part_tests {A = Body} start at ds s)
unfolding part_tests
parts_numbered start at [] s = tt
parts_numbered start at (d ∷ ds) s =
    (omega arith, append_numbered (fields_from 8 (2 * count_of d) at s short) _ (fields_numbered Body 8 (2 * count_of d) at s) (parts_numbered (start + 4) (at + 16 * count_of d) ds s))

measure_numbered : (flag : Bool) (n at : ℕ) (s : List ℕ) → AllNumbered (measure_tests {A = Body} flag n at s)
measure_numbered true n at s = fields_numbered Body 8 (2 + n) at s
measure_numbered false n at s = tt

pairs_numbered : (parts : Bool) (s : List ℕ) → AllNumbered (pair_tests {A = Body} parts s)
pairs_numbered true s =
    append_numbered (fields_from 4 (parts_in true s) 40 s short) _ (fields_numbered Body 4 (parts_in true s) 40 s) (parts_numbered 40 _ _ s)
pairs_numbered false s = fields_numbered Body 8 (2 * points_in false s) (pairs_at false s) s

rest_numbered : (parts z m : Bool) (s : List ℕ) → AllNumbered (rest_tests {A = Body} parts z m s)
rest_numbered parts z m s =
    let n : ℕ = points_in parts s in
    append_numbered (pair_tests parts s) _ (pairs_numbered parts s)
    (append_numbered (measure_tests z n (z_at parts s) s) _ (measure_numbered z n (z_at parts s) s) (measure_numbered m n (m_at parts z s) s))

pub body_numbered : (parts z m : Bool) (s : List ℕ) (counts xs ys zs ms : ℕ) → Numbered (body_of parts z m s counts xs ys zs ms)
unfolding body_of
body_numbered parts z m s counts xs ys zs ms =
    let last : List (Bool × Said Body) = room_tests parts z m s counts xs ys zs ms in
    let more = rest_tests parts z m s ++ last in
    first_numbered (count_tests parts s ++ more) (gives (body_in parts z m s))
    (append_numbered (count_tests parts s) more (all_counts Body parts s) (append_numbered (rest_tests parts z m s) last (rest_numbered parts z m s) (omega arith))) tt
