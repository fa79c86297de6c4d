-- Laws of sums of counts, of lengths and of room, in the code's own terms.
use mathlib.Core.Path.{◌≡◌, refl, sym, ap, ◌∙◌}
use mathlib.Core.Bool.{Bool, true, false, cond}
use Prim.Native.Nat.{ℕ, ◌+◌, ◌*◌, ◌^◌, ◌≤◌, ◌<◌}
use native.Mathlib.Omega.{arith}
use lib.Dec.{ltb}
use borrow.Author.Tests.{lt-ltb, le-ltb, ltb-true, ltb-false}
use Rattle.std.specs.Prelude.{Ok, Err}
use Rattle.std.specs.Prelude as Std
use Rattle.format.specs.declared.lengths.Formula.{Formula}
use Rattle.format.specs.declared.units.Bytes.{Bytes}
use Rattle.format.specs.declared.units.Words.{Words}
use Rattle.format.specs.Lengths.{formula_words}
use Rattle.writer.specs.Judging.{words_of, bytes_of, Whole, words_with, words_after, record_bytes_of, length_judged}

-- ---- the file's words with a record

module _ (words content : Words) where
  abbrev test : Bool
  test = ltb (words_with words content) (2 ^ 31)

  after-long : words_after words content ≡ Std.None → 2 ^ 31 ≤ words_with words content
  after-long e = go test refl e
    where
      go : (b : Bool) → test ≡ b → cond b (Std.Some (words_of (words_with words content))) Std.None ≡ Std.None → 2 ^ 31 ≤ words_with words content
      go true t q = absurd (let z : ◌≡◌ {A = ℕ} 0 1 = cc in omega arith)
      go false t q = ltb-false _ _ t

  after-held : (w : Words) → words_after words content ≡ Std.Some w → (words_with words content < 2 ^ 31) × (w ≡ words_of (words_with words content))
  after-held w e = go test refl e
    where
      go : (b : Bool) → test ≡ b → cond b (Std.Some (words_of (words_with words content))) Std.None ≡ Std.Some w → (words_with words content < 2 ^ 31) × (w ≡ words_of (words_with words content))
      go true t q = (ltb-true _ _ t, cc)
      go false t q = absurd (let z : ◌≡◌ {A = ℕ} 0 1 = cc in omega arith)

-- ---- the words of a formula

module _ (words : Words) (f : Formula) (p n : ℕ) where
  abbrev content : Words
  content = words_of (formula_words f p n)

  module _ (hp : p < 2 ^ 31) where
    module _ (hn : n < 2 ^ 31) where
      long-words : 2 ^ 31 ≤ words_with words content → Std.None ≡ length_judged words f p n
      long-words h = rw (lt-ltb p (2 ^ 31) hp, lt-ltb n (2 ^ 31) hn, le-ltb (words_with words content) (2 ^ 31) h)

      pub long-content : 2 ^ 31 ≤ formula_words f p n → Std.None ≡ length_judged words f p n
      long-content h = long-words (omega arith)

      module _ (w : Words) (e : w ≡ content) where
        pub long-file : words_after words w ≡ Std.None → Std.None ≡ length_judged words f p n
        long-file q = long-words (after-long words content (ap (words_after words) (sym e) ∙ q))

        pub held-file : (after : Words) → words_after words w ≡ Std.Some after → Std.Some (w, after) ≡ length_judged words f p n
        held-file after q =
            let h = after-held words content after (ap (words_after words) (sym e) ∙ q) in
            rw (lt-ltb p (2 ^ 31) hp, lt-ltb n (2 ^ 31) hn, lt-ltb (words_with words content) (2 ^ 31) h.0) (λ i. Std.Some (e i, h.1 i))

-- ---- a record's bytes

-- the bytes of a content's record
pub record-bytes : (n : ℕ) (content : Words) → content ≡ words_of n → record_bytes_of content ≡ bytes_of (8 + 2 * n)
record-bytes n content e = ap record_bytes_of e ∙ ap bytes_of (let h : 8 + (n + n) ≡ 8 + 2 * n = omega arith in h)

pub whole-bytes : (n : ℕ) (size : Bytes) → size ≡ bytes_of n → Whole size
whole-bytes n size e = rw e
