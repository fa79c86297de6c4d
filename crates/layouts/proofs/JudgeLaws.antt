-- Laws of the tests before the first byte: each refusal from the facts that the code has there, and what is known once all have passed.
use mathlib.Core.Path.{◌≡◌, refl, sym, ap, ◌∙◌}
use mathlib.Core.Bool.{Bool, true, false, cond, ◌&&◌, ◌||◌}
use mathlib.Core.List.{List}
use Prim.Native.Nat.{ℕ, ◌+◌, ◌*◌, ◌-◌, ◌^◌, ◌≤◌, ◌<◌}
use native.Mathlib.Omega.{arith}
use lib.Dec.{eqb, ltb, leb}
use lib.Ieee.{Float}
use lib.ListN.{length}
use borrow.Author.Tests.{le-leb, lt-leb, ltb-true, leb-true}
use Rattle.format.specs.Lengths.{several_form, content_words}
use Rattle.format.specs.Order.{first}
use Rattle.format.specs.Said.{gives, tables, long, room_bytes}
use Rattle.format.proofs.OrderLaws.{passed, both_true}
use Rattle.layouts.specs.Answers.{agree, counts_held, body_size, lent_size, layout_tests, layout_of}
use Rattle.layouts.specs.Steps.{measure_size, front_size, Agreed, Placed}
use Rattle.layouts.specs.Tables.{points_lent}
use Rattle.layouts.proofs.BodyLaws.{size_is}
use Rattle.layouts.proofs.TableLaws.{agreed, no_counts}

-- ---- the tests in order

pub layout_is : (parts z m : Bool) (counts : List ℕ) (xs ys zs ms : List Float) (room : ℕ) → layout_of parts z m counts xs ys zs ms room ≡ first (layout_tests parts z m counts xs ys zs ms room) (gives (lent_size parts z m counts xs))
unfolding layout_of
layout_is parts z m counts xs ys zs ms room = refl

module _ (parts z m : Bool) (counts : List ℕ) (xs ys zs ms : List Float) (room : ℕ) where
  pub disagree : agree parts z m counts xs ys zs ms ≡ false → tables ≡ layout_of parts z m counts xs ys zs ms room
  unfolding layout_of
  disagree e = rw e

  module _ (agrees : agree parts z m counts xs ys zs ms ≡ true) where
    abbrev n : ℕ
    n = points_lent parts counts xs

    known : ((parts || eqb (length counts) 0) ≡ true) × Agreed z m n xs ys zs ms
    known = agreed (parts || eqb (length counts) 0) z m n xs ys zs ms agrees

    -- the code counts the points by their x
    held_is : counts_held parts counts xs ≡ ltb (length counts) (2 ^ 31) && ltb (length xs) (2 ^ 31)
    held_is = ap (λ k. ltb (length counts) (2 ^ 31) && ltb k (2 ^ 31)) (sym known.1.xs_has)

    pub too_long : ltb (length counts) (2 ^ 31) && ltb (length xs) (2 ^ 31) ≡ false → long ≡ layout_of parts z m counts xs ys zs ms room
    unfolding layout_of
    too_long e = rw (agrees, held_is, e)

    -- the room decides, by the size as the code adds it up
    module _ (held : ltb (length counts) (2 ^ 31) && ltb (length xs) (2 ^ 31) ≡ true) (size : ℕ) (added : size ≡ front_size parts (length counts) + 16 * length xs + measure_size z (length xs) + measure_size m (length xs)) where
      size-lent : size ≡ lent_size parts z m counts xs
      size-lent = added ∙ (size_is parts z m (length counts) (length xs) (no_counts parts (length counts) known.0) ∙ ap (body_size parts z m (length counts)) known.1.xs_has)

      left : layout_of parts z m counts xs ys zs ms room ≡ cond (leb size room) (gives size) (room_bytes size)
      unfolding layout_of
      left = rw (agrees, held_is, held, ← size-lent)

      pub no_room : room < size → room_bytes size ≡ layout_of parts z m counts xs ys zs ms room
      no_room h = sym (left ∙ rw (lt-leb size room h))

      pub has_room : size ≤ room → gives size ≡ layout_of parts z m counts xs ys zs ms room
      has_room h = sym (left ∙ rw (le-leb size room h))

-- where all pass, with the room that the content's words ask for
pub all_pass : (parts z m : Bool) (counts : List ℕ) (xs ys zs ms : List Float) (room : ℕ) → agree parts z m counts xs ys zs ms ≡ true → counts_held parts counts xs ≡ true → 2 * content_words (several_form parts) z m (length counts) (points_lent parts counts xs) ≤ 4 + room → layout_of parts z m counts xs ys zs ms room ≡ gives (lent_size parts z m counts xs)
unfolding layout_of body_size
all_pass parts z m counts xs ys zs ms room a c w =
    let h : 2 * content_words (several_form parts) z m (length counts) (points_lent parts counts xs) - 4 ≤ room = omega arith in
    rw (a, c, le-leb _ _ h)

-- ---- once all have passed

pub placed : (parts z m : Bool) (counts : List ℕ) (xs ys zs ms : List Float) (room size : ℕ) → gives size ≡ layout_of parts z m counts xs ys zs ms room → Placed parts z m counts xs ys zs ms room
unfolding layout_of
placed parts z m counts xs ys zs ms room size e =
    let n = points_lent parts counts xs in
    let ok = passed (lent_size parts z m counts xs) size (layout_tests parts z m counts xs ys zs ms room) tt (sym e) in
    let a = agreed (parts || eqb (length counts) 0) z m n xs ys zs ms (ok 0) in
    record {
      counts_fit = a.0;
      agreed = a.1;
      held = ltb-true n (2 ^ 31) (both_true (ltb (length counts) (2 ^ 31)) (ltb n (2 ^ 31)) (ok 1)).1;
      fits = leb-true (lent_size parts z m counts xs) room (ok 2);
    }
