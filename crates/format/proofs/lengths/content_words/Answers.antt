-- `format::lengths::content_words` meets its contract: by whether an i32 holds the words.
use Rattle.std.proofs.Common.{◌≡◌, refl, sym, ◌∙◌, ℕ, ℤ, pos, Bool, true, false, ltb, ◌^◌, Some, None, Result, Ok, Err}
use Rattle.std.specs.Int.{w32}
use mir.Val.{SFits}
use mir.ValLaws.{to_z-of_z}
use borrow.Author.Tests.{lt-ltb, ltb-true}
use Rattle.std.specs.Result.{OkIff, result_ok}
use Rattle.format.specs.Lengths.{counted}
use Rattle.format.proofs.lengths.content_words.Goals as goal

module _ {E : Type 0} where
  too_many : (r : Result ℤ E) (n : ℕ) → OkIff r (SFits w32 (pos n)) (pos n) → result_ok r ≡ None → ltb n (2 ^ 31) ≡ false
  too_many (Ok z) n fits e = cc
  too_many (Err d) n lacks e = go (ltb n (2 ^ 31)) refl
    where
      go : (b : Bool) → ltb n (2 ^ 31) ≡ b → b ≡ false
      go true t = absurd (lacks (record { sfits = ltb-true n (2 ^ 31) t }))
      go false t = refl

  held : (r : Result ℤ E) (n : ℕ) (z : ℤ) → OkIff r (SFits w32 (pos n)) (pos n) → result_ok r ≡ Some z → (SFits w32 (pos n)) × (z ≡ pos n)
  held (Ok x) n z fits e = (fits.0, cc)
  held (Err d) n z lacks e = cc

pub returns-in_err-ok : goal.returns-in_err-ok
unfolding counted
returns-in_err-ok c =
    let words = rw (c.from.ensures, c.from-2.ensures, c.from-3.ensures, c.from-4.ensures) at c.try_from.ensures in
    rw (c.from_residual.ensures, too_many _ _ words (sym c.ok.ensures.value ∙ c.in_err-ok.was))

pub returns : goal.returns
unfolding counted
returns c =
    let words = rw (c.from.ensures, c.from-2.ensures, c.from-3.ensures, c.from-4.ensures) at c.try_from.ensures in
    let h = held _ _ _ words (sym c.ok.ensures.value ∙ c.in_ok-ok.was) in
    rw (h.1, to_z-of_z w32 _ h.0, lt-ltb _ (2 ^ 31) (h.0.sfits))
