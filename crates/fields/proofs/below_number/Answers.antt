-- `fields::below_number`: a NaN is below nothing and nothing below it, and for the others each branch is the law at its two signs.
use Rattle.std.proofs.Common.{◌≡◌, ℕ, ◌%◌, ◌^◌, ◌≤◌, ◌<◌, Bool, true, false, sym, ◌∙◌}
use Rattle.std.specs.Float.{binary64}
use Rattle.std.specs.Float.Ieee.{of_bits, lt, below}
use lib.Dec.{leb}
use mathlib.Core.Logic.{◌⊎◌, inl, inr}
use borrow.Author.Tests.{le-leb, lt-leb}
use Rattle.format.proofs.BitLaws.{bits_compare}
use Rattle.fields.proofs.below_number.Goals as goal

abbrev infinity : ℕ
infinity = 0x7ff0_0000_0000_0000

module _ (a b : ℕ) where
  of_nan : (infinity < a % 2 ^ 63) ⊎ ((a % 2 ^ 63 ≤ infinity) × (infinity < b % 2 ^ 63)) → false ≡ lt (of_bits binary64 a) (of_bits binary64 b)
  of_nan (inl h) = sym ((bits_compare binary64 a b).0 ∙ rw (lt-leb (a % 2 ^ 63) infinity h))
  of_nan (inr h) = sym ((bits_compare binary64 a b).0 ∙ rw (le-leb (a % 2 ^ 63) infinity h.0, lt-leb (b % 2 ^ 63) infinity h.1))

  -- neither is a NaN
  signed : a % 2 ^ 63 ≤ infinity → b % 2 ^ 63 ≤ infinity → (s t : Bool) → leb (2 ^ 63) a ≡ s → leb (2 ^ 63) b ≡ t → below s (a % 2 ^ 63) t (b % 2 ^ 63) ≡ lt (of_bits binary64 a) (of_bits binary64 b)
  signed h k s t d e = sym ((bits_compare binary64 a b).0 ∙ rw (le-leb (a % 2 ^ 63) infinity h, le-leb (b % 2 ^ 63) infinity k, d, e))

pub returns-then-p-gt-INFINITY : goal.returns-then-p-gt-INFINITY
returns-then-p-gt-INFINITY c = of_nan c.args.a c.args.b c.then-p-gt-INFINITY.either

pub returns-in-true-true : goal.returns-in-true-true
returns-in-true-true c =
    let t = c.in-true-true in
    signed c.args.a c.args.b c.if-p-gt-INFINITY.false c.if-q-gt-INFINITY.false false false (lt-leb _ _ t.is-0) (lt-leb _ _ t.is-1)

pub returns-in-true-false : goal.returns-in-true-false
returns-in-true-false c =
    let t = c.in-true-false in
    signed c.args.a c.args.b c.if-p-gt-INFINITY.false c.if-q-gt-INFINITY.false false true (lt-leb _ _ t.is-0) (le-leb _ _ t.is-1)

pub returns-in-false-true : goal.returns-in-false-true
returns-in-false-true c =
    let t = c.in-false-true in
    signed c.args.a c.args.b c.if-p-gt-INFINITY.false c.if-q-gt-INFINITY.false true false (le-leb _ _ t.is-0) (lt-leb _ _ t.is-1)

pub returns-in-false-false : goal.returns-in-false-false
returns-in-false-false c =
    let t = c.in-false-false in
    signed c.args.a c.args.b c.if-p-gt-INFINITY.false c.if-q-gt-INFINITY.false true true (le-leb _ _ t.is-0) (le-leb _ _ t.is-1)
