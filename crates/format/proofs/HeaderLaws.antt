-- A header's bytes and its fields: where the fields are right the header stands there, and of a header that stands they are read.
use mathlib.Core.Path.{◌≡◌, refl, sym, subst}
use mathlib.Core.List.{List, ◌++◌, flatten, append_assoc}
use Prim.Native.Nat.{ℕ, ◌^◌, ◌≤◌, ◌<◌}
use native.Mathlib.Omega.{arith}
use lib.Dec.{lit<}
use lib.ListN.{length, get_or, replicate, length-append}
use Rattle.format.specs.Bytes.{le, be, field}
use Rattle.format.specs.Encoding.{Box, box_doubles, header_bytes}
use Rattle.format.specs.Numbers.{big, little, double}
use Rattle.format.specs.WellFormed.{BoxFinite}
use Rattle.format.proofs.ByteLaws.{AllBytes}
use Rattle.format.proofs.FiniteLaws.{finite_fit}
use Rattle.format.proofs.NumberLaws.{length-big, length-little}
use Rattle.format.proofs.Runs.{numbers, numbers-back, run, run_stands, length_run}
use Rattle.format.proofs.Places.{Stands, join, front, back, le-back, be-back, le_stands, be_stands, field_stands, stands_field}

abbrev pub zeros : List ℕ
zeros = replicate 20 0

-- what is the same in both headers: the code and the unused bytes, and all behind the length
abbrev pub top : List ℕ
top = big 9994 ++ zeros

abbrev pub tail : ℕ → Box → List ℕ
tail code box = little 1000 ++ (little code ++ run 8 (box_doubles box))

header_laid : (words code : ℕ) (box : Box) → header_bytes words 1000 code box ≡ top ++ (big words ++ tail code box)
unfolding header_bytes flatten double
header_laid words code box = sym (append_assoc (big 9994) zeros _)

length_top : length top ≡ 24
length_top = rw (length-append, length-big)

length_tail : (code : ℕ) (box : Box) → length (tail code box) ≡ 72
length_tail code box = simp (length-append, length-little, length_run)

pub length-header : (words code : ℕ) (box : Box) → length (header_bytes words 1000 code box) ≡ 100
length-header words code box = rw (header_laid words code box, length-append, length_top, length-append, length-big, length_tail)

-- the box of eight numbers
abbrev pub box_of : List ℕ → Box
box_of ds =
    record {
      xmin = get_or ds 0 0;
      ymin = get_or ds 1 0;
      xmax = get_or ds 2 0;
      ymax = get_or ds 3 0;
      zmin = get_or ds 4 0;
      zmax = get_or ds 5 0;
      mmin = get_or ds 6 0;
      mmax = get_or ds 7 0;
    }

pub box-of : (at : ℕ) (s : List ℕ) → box_doubles (box_of (numbers 8 8 at s)) ≡ numbers 8 8 at s
unfolding numbers
box-of at s = refl

-- ---- from the fields

pub joined : (s : List ℕ) (code : ℕ) (box : Box) → AllBytes s → 100 ≤ length s → field 24 0 s ≡ top → field 72 28 s ≡ tail code box
    → Stands 0 (header_bytes (be (field 4 24 s)) 1000 code box) s
unfolding big
joined s code box b h et el =
    rw (header_laid (be (field 4 24 s)) code box)
    (join 0 24 top (big (be (field 4 24 s)) ++ tail code box) s length_top (subst (λ (q : List ℕ). Stands 0 q s) et (stands_field 0 24 s (omega arith)))
    (join 24 4 (big (be (field 4 24 s))) (tail code box) s (length-big _) (be_stands 4 24 s b (omega arith))
    (subst (λ (q : List ℕ). Stands 28 q s) el (stands_field 28 72 s (omega arith)))))

module _ (s : List ℕ) (b : AllBytes s) (h : 100 ≤ length s) where
  pub top_right : be (field 4 0 s) ≡ 9994 → field 20 4 s ≡ zeros → field 24 0 s ≡ top
  unfolding big
  top_right c u =
      field_stands 0 top s 24 length_top
      (join 0 4 (big 9994) zeros s (length-big 9994) (rw c at (be_stands 4 0 s b (omega arith)))
      (subst (λ (q : List ℕ). Stands 4 q s) u (stands_field 4 20 s (omega arith))))

  pub tail_right : le (field 4 28 s) ≡ 1000 → field 72 28 s ≡ tail (le (field 4 32 s)) (box_of (numbers 8 8 36 s))
  unfolding little numbers
  tail_right v =
      let ds = numbers 8 8 36 s in
      let code = le (field 4 32 s) in
      field_stands 28 (tail code (box_of ds)) s 72 (length_tail code (box_of ds))
      (join 28 4 (little 1000) (little code ++ run 8 ds) s (length-little 1000) (rw v at (le_stands 4 28 s b (omega arith)))
      (join 32 4 (little code) (run 8 ds) s (length-little code) (le_stands 4 32 s b (omega arith))
      (run_stands 8 8 36 s b (omega arith))))

-- ---- to the fields

module _ (words code : ℕ) (box : Box) (s : List ℕ) (st : Stands 0 (header_bytes words 1000 code box) s) where
  at0 : Stands 0 (top ++ (big words ++ tail code box)) s
  at0 = rw (header_laid words code box) at st

  at24 : Stands 24 (big words ++ tail code box) s
  at24 = back 0 24 top (big words ++ tail code box) s length_top at0

  at28 : Stands 28 (tail code box) s
  at28 = back 24 4 (big words) (tail code box) s (length-big words) at24

  at32 : Stands 32 (little code ++ run 8 (box_doubles box)) s
  at32 = back 28 4 (little 1000) (little code ++ run 8 (box_doubles box)) s (length-little 1000) at28

  at_top : Stands 0 top s
  at_top = front 0 24 top (big words ++ tail code box) s length_top at0

  pub top_read : field 24 0 s ≡ top
  top_read = field_stands 0 top s 24 length_top at_top

  pub tail_read : field 72 28 s ≡ tail code box
  tail_read = field_stands 28 (tail code box) s 72 (length_tail code box) at28

  pub magic_read : be (field 4 0 s) ≡ 9994
  unfolding big
  magic_read = be-back 4 9994 0 s (lit< tt) (front 0 4 (big 9994) zeros s (length-big 9994) at_top)

  pub unused-read : field 20 4 s ≡ zeros
  unused-read = field_stands 4 zeros s 20 refl (back 0 4 (big 9994) zeros s (length-big 9994) at_top)

  pub words-read : words < 2 ^ 32 → be (field 4 24 s) ≡ words
  unfolding big
  words-read h = be-back 4 words 24 s h (front 24 4 (big words) (tail code box) s (length-big words) at24)

  pub version-read : le (field 4 28 s) ≡ 1000
  unfolding little
  version-read = le-back 4 1000 28 s (lit< tt) (front 28 4 (little 1000) (little code ++ run 8 (box_doubles box)) s (length-little 1000) at28)

  pub code_read : code < 2 ^ 32 → le (field 4 32 s) ≡ code
  unfolding little
  code_read h = le-back 4 code 32 s h (front 32 4 (little code) (run 8 (box_doubles box)) s (length-little code) at32)

  pub box_read : BoxFinite box → numbers 8 8 36 s ≡ box_doubles box
  box_read f = numbers-back 8 36 (box_doubles box) s (finite_fit (box_doubles box) f) (back 32 4 (little code) (run 8 (box_doubles box)) s (length-little code) at32)
