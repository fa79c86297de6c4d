-- `multipart::judge::judge_rest`: each walk's answer is that of the tests that it stands for, and those before it pass.
use Rattle.std.proofs.Common.{◌≡◌, ◌+◌, ◌*◌, ◌≤◌, ℕ, Bool, List, length, Err, Ok, refl, ◌∙◌, arith}
use Rattle.multipart.specs.Body.{parts_in, number_at, points_in, z_at, m_at}
use Rattle.multipart.specs.Walks.{end_after}
use Rattle.multipart.proofs.RestLaws.{pairs_stop, z_stop, m_stop, rest_pass, z-place, m-place, measure_found}
use Rattle.multipart.proofs.TestLaws.{told_err}
use Rattle.multipart.proofs.judge.judge_rest.Goals as goal

-- the pairs end within the bytes
pairs-inside : (parts : Bool) (s : List ℕ) (p points : ℕ) → p ≡ parts_in parts s → (points ≡ points_in parts s) × (z_at parts s ≤ length s) → number_at parts + 4 + 4 * p + 16 * points ≤ length s
pairs-inside parts s p points e h = rw (z-place parts s points h.0 p e) h.1

-- and z stands there
z-start : (parts : Bool) (s : List ℕ) (p points at : ℕ) → p ≡ parts_in parts s → points ≡ points_in parts s → at ≡ number_at parts + 4 + 4 * p → at + 16 * points ≡ z_at parts s
z-start parts s p points at e f g = rw g (z-place parts s points f p e)

pub returns-in_err-points : goal.returns-in_err-points
returns-in_err-points c = rw (told_err _ _ c.from_residual.ensures.1) (pairs_stop _ _ _ _ _ c.in_err-points.ensures)

pub pairs_at-requires : goal.pairs_at-requires
pairs_at-requires c = omega (arith, pairs-inside _ _ _ _ c.requires.parts_are c.in_ok-points.ensures.1)

pub overflow_mul-z_at : goal.overflow_mul-z_at
overflow_mul-z_at c = omega (arith, pairs-inside _ _ _ _ c.requires.parts_are c.in_ok-points.ensures.1)

pub overflow_add-z_at : goal.overflow_add-z_at
overflow_add-z_at c = omega (arith, pairs-inside _ _ _ _ c.requires.parts_are c.in_ok-points.ensures.1, c.pairs_at.ensures)

pub judge_measure-requires : goal.judge_measure-requires
judge_measure-requires c = omega (arith, pairs-inside _ _ _ _ c.requires.parts_are c.in_ok-points.ensures.1, c.pairs_at.ensures)

pub returns-in_err-m_at : goal.returns-in_err-m_at
returns-in_err-m_at c =
    let pairs = c.in_ok-points.ensures in
    let start = z-start _ _ _ _ _ c.requires.parts_are pairs.1.0 c.pairs_at.ensures in
    rw (told_err _ _ c.from_residual-in_err-m_at.ensures.1)
    (z_stop _ _ _ _ pairs.0 _ (measure_found _ _ (Err _) (Err _) _ _ _ _ pairs.1.0 start refl c.in_err-m_at.ensures))

-- where z ends m begins
m-start : (parts z : Bool) (s : List ℕ) (points at end : ℕ) → points ≡ points_in parts s → at ≡ z_at parts s → end ≡ end_after z points at → end ≡ m_at parts z s
m-start parts z s points at end f g h = h ∙ m-place parts s points f z at g

pub returns-in_err-judge_measure : goal.returns-in_err-judge_measure
returns-in_err-judge_measure c =
    let pairs = c.in_ok-points.ensures in
    let values = c.in_ok-m_at.ensures in
    let start = z-start _ _ _ _ _ c.requires.parts_are pairs.1.0 c.pairs_at.ensures in
    rw (told_err _ _ c.from_residual-in_err-judge_measure.ensures.1)
    (m_stop _ _ _ _ pairs.0 (measure_found _ _ (Ok _) (Ok _) _ _ _ _ pairs.1.0 start refl values).0 _
    (measure_found _ _ (Err _) (Err _) _ _ _ _ pairs.1.0 (m-start _ _ _ _ _ _ pairs.1.0 start values.1.0) refl c.in_err-judge_measure.ensures))

pub returns : goal.returns
returns c =
    let pairs = c.in_ok-points.ensures in
    let values = c.in_ok-m_at.ensures in
    let start = z-start _ _ _ _ _ c.requires.parts_are pairs.1.0 c.pairs_at.ensures in
    let z = measure_found _ _ (Ok _) (Ok _) _ _ _ _ pairs.1.0 start refl values in
    let m = measure_found _ _ (Ok _) (Ok _) _ _ _ _ pairs.1.0 (m-start _ _ _ _ _ _ pairs.1.0 start values.1.0) refl c.in_ok-judge_measure.ensures in
    (rest_pass _ _ _ _ pairs.0 z.0 m.0, (pairs.1.0, rw (← m.1.0) m.1.1))
