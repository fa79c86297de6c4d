-- The readers' refusals that name a place lie within the bytes, each field as wide as the definitions have it.
use mathlib.Core.Path.{refl}
use mathlib.Core.List.{List}
use Prim.Native.Nat.{ℕ, zero-le}
use native.Mathlib.Omega.{arith}
use lib.Dec.{lit<}
use lib.IntN.{ℤ}
use lib.Signed.{non_neg}
use borrow.Author.Tests.{le-leb, ne_eqb}
use Rattle.format.specs.Kinds.{known}
use Rattle.format.specs.Numbers.{be_i32, le_i32}
use Rattle.format.proofs.Placed.{Placed, elsewhere, size_placed, test_placed, field_placed, fields_placed}
use Rattle.header.specs.Entries.{two_of}
use Rattle.header.specs.Reading.{is9994, header_of, header_width}

pub header_placed : (s : List ℕ) → Placed header_width s (header_of s)
unfolding header_of
header_placed s =
    field_placed header_width s 4 0 zero-le refl _
    (λ a.
    test_placed header_width s (is9994 (be_i32 0 s)) _ _ (elsewhere header_width s 2 _ refl)
    (λ i.
    field_placed header_width s 20 4 a refl _
    (λ b.
    field_placed header_width s 4 24 b refl _
    (λ c.
    test_placed header_width s (non_neg (be_i32 24 s)) _ _ (size_placed header_width s 24 b)
    (λ j.
    field_placed header_width s 4 28 c refl _
    (λ d.
    field_placed header_width s 4 32 d refl _
    (λ e.
    test_placed header_width s (known (le_i32 32 s)) _ _ (elsewhere header_width s 4 _ refl)
    (λ k.
    fields_placed header_width s 8 8 36 (lit< tt) e (λ p h l. rw (ne_eqb p 4 (omega arith), le-leb 36 p h)) _ (λ l. tt)))))))))

pub two_placed : {A : Type 0} (make : ℤ → ℤ → A) (s : List ℕ) → Placed (λ at. 4) s (two_of make s)
unfolding two_of
two_placed make s = field_placed (λ at. 4) s 4 0 zero-le refl _ (λ a. field_placed (λ at. 4) s 4 4 a refl _ (λ b. tt))
