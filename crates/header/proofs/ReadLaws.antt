-- Laws of the header's definition, as the code's tests meet it.
use mathlib.Core.Path.{◌≡◌, refl, sym, ap, ◌∙◌}
use mathlib.Core.Bool.{true, false}
use mathlib.Core.List.{List}
use Prim.Native.Nat.{ℕ, ◌+◌, ◌*◌, ◌^◌, ◌<◌}
use native.Mathlib.Nat.{add-zero}
use native.Mathlib.Omega.{arith}
use lib.Dec.{lit<}
use lib.Ieee.{Float}
use lib.IntN.{ℤ, pos, negsuc}
use lib.ListN.{get_or}
use lib.Signed.{mag, lt_z, non_neg}
use mir.Syntax.{w32}
use mir.Val.{SFits, to_z, of_z}
use mir.ValLaws.{to_z-of_z}
use borrow.Author.Tests.{eq-eqb, ne_eqb}
use Rattle.std.specs.Prelude.{Result, Ok, Err}
use Rattle.std.specs.Result.{IsErrAnd}
use Rattle.format.specs.declared.kinds.Kind.{Kind}
use Rattle.format.specs.declared.kinds.UnknownKind.{UnknownKind}
use Rattle.format.specs.declared.shapes.Short.{Short}
use Rattle.format.specs.Kinds.{known, said_found, kind_of}
use Rattle.format.specs.Numbers.{be_i32, le_i32, le_f64, doubles_at}
use Rattle.format.specs.Said.{short, is_given}
use Rattle.format.proofs.KindLaws.{known_found}
use Rattle.format.proofs.NumberLaws.{doubles-at}
use Rattle.format.proofs.SignLaws.{sign_test, non_neg_yes, non_neg_no}
use Rattle.header.specs.declared.Header.{Header}
use Rattle.header.specs.declared.HeaderError.{HeaderError}
use Rattle.header.specs.declared.HeaderError.TheVariants as ErrorIs
use Rattle.header.specs.Box.{box_at}
use Rattle.header.specs.Reading.{said, is9994}

-- what leaves the reader where a field is cut
pub cut_short : (r : Result Header HeaderError) (e : Short) (at present : ℕ) → IsErrAnd r (λ f. f ≡ ErrorIs.Short e) → e ≡ record { at = at; present = present } → said r ≡ short at present
cut_short (Ok h) e at present p q = absurd p
cut_short (Err f) e at present p q = rw (p, q)

-- ---- what code tests, and the definition's test

-- `z == 9994` in code is of z's bits
is9994-yes : (z : ℤ) → mag z < 2 ^ 31 → of_z w32 z ≡ 9994 → is9994 z ≡ true
is9994-yes (pos n) f e = eq-eqb n 9994 e
is9994-yes (negsuc n) f e = absurd (omega arith)

is9994_no : (z : ℤ) → (of_z w32 z ≡ 9994 → ⊥) → is9994 z ≡ false
is9994_no (pos n) e = ne_eqb n 9994 e
is9994_no (negsuc n) e = refl

pub code-right : (z : ℤ) (s : List ℕ) → SFits w32 z → z ≡ be_i32 0 s → of_z w32 z ≡ 9994 → is9994 (be_i32 0 s) ≡ true
code-right z s f e h = ap is9994 (sym e) ∙ is9994-yes z f.sfits h

pub code-wrong : (z : ℤ) (s : List ℕ) → z ≡ be_i32 0 s → (of_z w32 z ≡ 9994 → ⊥) → is9994 (be_i32 0 s) ≡ false
code-wrong z s e h = ap is9994 (sym e) ∙ is9994_no z h

module _ (z : ℤ) (s : List ℕ) (f : SFits w32 z) (e : z ≡ be_i32 24 s) where
  pub length-right : lt_z (to_z w32 (of_z w32 z)) (pos 0) ≡ false → non_neg (be_i32 24 s) ≡ true
  length-right h = ap non_neg (sym e) ∙ non_neg_yes z (sign_test w32 z f false h)

  pub length-wrong : lt_z (to_z w32 (of_z w32 z)) (pos 0) ≡ true → non_neg (be_i32 24 s) ≡ false
  length-wrong h = ap non_neg (sym e) ∙ non_neg_no z (sign_test w32 z f true h)

pub found_is : (z : ℤ) (s : List ℕ) (r r' : Result Kind UnknownKind) → SFits w32 z → z ≡ le_i32 32 s → said_found r ≡ kind_of (to_z w32 (of_z w32 z)) → r ≡ r' → known (le_i32 32 s) ≡ is_given (said_found r')
found_is z s r r' f e h q = known_found _ r (h ∙ ap kind_of (to_z-of_z w32 z f ∙ e)) r' q

-- ---- the box

-- a box whose doubles are the eight that stand there
pub boxed : (at : ℕ) (s : List ℕ) (l : List Float) (d : Float)
    → l ≡ doubles_at 8 8 at s
    → record { xmin = get_or l 0 d; ymin = get_or l 1 d; xmax = get_or l 2 d; ymax = get_or l 3 d; zmin = get_or l 4 d; zmax = get_or l 5 d; mmin = get_or l 6 d; mmax = get_or l 7 d } ≡ box_at at s
boxed at s l d e =
    let x : (i : ℕ) → i < 8 → get_or (doubles_at 8 8 at s) i d ≡ le_f64 (at + 8 * i) s = λ i. doubles-at 8 8 at s i d in
    rw (e, x 0 (lit< tt), x 1 (lit< tt), x 2 (lit< tt), x 3 (lit< tt), x 4 (lit< tt), x 5 (lit< tt), x 6 (lit< tt), x 7 (lit< tt), add-zero)
