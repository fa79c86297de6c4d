-- Reading what was written gives the header back, and writing what was read gives the bytes back, by the header's fields one by one.
use mathlib.Core.Path.{◌≡◌, refl, sym, ap, ◌∙◌}
use mathlib.Core.Bool.{true, false}
use mathlib.Core.List.{List, [], ◌∷◌, flatten}
use Prim.Native.Nat.{ℕ, zero, suc, ◌+◌, ◌*◌, ◌≤◌, ◌<◌}
use native.Mathlib.Omega.{arith}
use lib.Dec.{T, lit<, lit≤}
use lib.IntN.{ℤ, pos, negsuc}
use lib.Ieee.{Float, binary64, fits}
use lib.ListN.{length, get_or, take}
use lib.Signed.{non_neg}
use borrow.Author.Tests.{leb-true, eqb-true}
use Rattle.format.specs.Bytes.{le, field}
use Rattle.format.specs.Kinds.{known}
use Rattle.format.specs.Numbers.{be_i32, le_i32, le_f64, i32_be, f64_le, PlainNan}
use Rattle.format.specs.Said.{gives, wrong_size}
use Rattle.format.specs.Shapes.{sum}
use Rattle.format.proofs.ByteLaws.{AllBytes, all_bytes}
use Rattle.format.proofs.Equations.{field_is}
use Rattle.format.proofs.LayoutLaws.{widths, start, pieces, length-flatten, field-flatten, flatten_pieces, field-take}
use Rattle.format.proofs.NumberLaws.{length-i32_be, length-i32_le, length-f64_le, be_i32-back, le_i32-back, le_f64-back, i32_be_of, i32_le_of, f64_le_of, f64_le-only}
use Rattle.format.proofs.OrderLaws.{passed, given}
use Rattle.header.specs.declared.Header.{Header}
use Rattle.header.specs.Box.{box_at}
use Rattle.header.specs.Reading.{is9994, header_in, header_tests, header_of}
use Rattle.header.specs.RoundTrip.{Typed, ReadsBack, Plain, WritesBack}
use Rattle.header.specs.Writing.{bytes_of}
use Rattle.header.proofs.WriteLaws.{fields_of, bytes_are}

-- ---- where the fields of a header stand

abbrev ws : List ℕ
ws = 4 ∷ 20 ∷ 4 ∷ 4 ∷ 4 ∷ 8 ∷ 8 ∷ 8 ∷ 8 ∷ 8 ∷ 8 ∷ 8 ∷ 8 ∷ []

widths_are : (h : Header) → widths (fields_of h) ≡ ws
widths_are h = simp (length-i32_be, length-i32_le, length-f64_le)

length_bytes_of : (h : Header) → length (bytes_of h) ≡ 100
length_bytes_of h = ap length (bytes_are h) ∙ (length-flatten (fields_of h) ∙ ap sum (widths_are h))

-- field i stands where the widths before it end
at : (h : Header) (i : ℕ) → i < 13 → field (get_or ws i 0) (start ws i) (bytes_of h) ≡ get_or (fields_of h) i []
at h i p =
    ap (field (get_or ws i 0) (start ws i)) (bytes_are h)
    ∙ (ap (λ (v : List ℕ). field (get_or v i 0) (start v i) (flatten (fields_of h))) (sym (widths_are h)) ∙ field-flatten (fields_of h) i p)

-- ---- reading what was written

module _ (h : Header) (g : Typed h) where
  code : be_i32 0 (bytes_of h) ≡ pos 9994
  code = be_i32-back (pos 9994) (record { sfits = lit< tt }) 0 (bytes_of h) (at h 0 (lit< tt))

  words : be_i32 24 (bytes_of h) ≡ h.file_length.0
  words = be_i32-back h.file_length.0 g.words 24 (bytes_of h) (at h 2 (lit< tt))

  version : le_i32 28 (bytes_of h) ≡ h.version
  version = le_i32-back h.version g.version 28 (bytes_of h) (at h 3 (lit< tt))

  kind : le_i32 32 (bytes_of h) ≡ h.shape_type
  kind = le_i32-back h.shape_type g.kind 32 (bytes_of h) (at h 4 (lit< tt))

  -- the eight doubles: field i, where i is 5 and more
  double : (i : ℕ) (x : Float) → i < 13 → get_or ws i 0 ≡ 8 → T (fits binary64 x) → get_or (fields_of h) i [] ≡ f64_le x → le_f64 (start ws i) (bytes_of h) ≡ x
  double i x p w f e = le_f64-back x f (start ws i) (bytes_of h) (ap (λ (n : ℕ). field n (start ws i) (bytes_of h)) (sym w) ∙ at h i p ∙ e)

  box-back : box_at 36 (bytes_of h) ≡ h.bbox
  box-back =
      rw (
        double 5 h.bbox.xmin (lit< tt) refl g.bbox.xmin refl,
        double 6 h.bbox.ymin (lit< tt) refl g.bbox.ymin refl,
        double 7 h.bbox.xmax (lit< tt) refl g.bbox.xmax refl,
        double 8 h.bbox.ymax (lit< tt) refl g.bbox.ymax refl,
        double 9 h.bbox.zmin (lit< tt) refl g.bbox.zmin refl,
        double 10 h.bbox.zmax (lit< tt) refl g.bbox.zmax refl,
        double 11 h.bbox.mmin (lit< tt) refl g.bbox.mmin refl,
        double 12 h.bbox.mmax (lit< tt) refl g.bbox.mmax refl,
      )

  back : known h.shape_type ≡ true → non_neg h.file_length.0 ≡ true → header_of (bytes_of h) ≡ gives h
  unfolding header_of
  back k n = rw (length_bytes_of h, code, words, n, version, kind, k, box-back)

  refused : non_neg h.file_length.0 ≡ false → header_of (bytes_of h) ≡ wrong_size 24
  unfolding header_of
  refused n = rw (length_bytes_of h, code, words, n)

pub reads_back : ReadsBack
reads_back = record { back = back; refused = refused }

-- ---- writing what was read

-- each of the eight numbers below 8
eight : (P : ℕ → Type 0) → P 0 → P 1 → P 2 → P 3 → P 4 → P 5 → P 6 → P 7 → (i : ℕ) → i < 8 → P i
eight P a b c d e f g h zero p = a
eight P a b c d e f g h (suc zero) p = b
eight P a b c d e f g h (suc (suc zero)) p = c
eight P a b c d e f g h (suc (suc (suc zero))) p = d
eight P a b c d e f g h (suc (suc (suc (suc zero)))) p = e
eight P a b c d e f g h (suc (suc (suc (suc (suc zero))))) p = f
eight P a b c d e f g h (suc (suc (suc (suc (suc (suc zero)))))) p = g
eight P a b c d e f g h (suc (suc (suc (suc (suc (suc (suc zero))))))) p = h
eight P a b c d e f g h (suc (suc (suc (suc (suc (suc (suc (suc i)))))))) p = absurd (omega arith)

is_code : (z : ℤ) → is9994 z ≡ true → z ≡ pos 9994
is_code (pos n) e = ap pos (eqb-true n 9994 e)
is_code (negsuc n) e = cc

module _ (s : List ℕ) (b : AllBytes s) (h : Header) (e : header_of s ≡ gives h) where
  held : header_in s ≡ h
  unfolding header_of
  held = given (header_in s) h (header_tests s) tt e

  long : 100 ≤ length s
  unfolding header_of
  long = leb-true 100 (length s) (passed (header_in s) h (header_tests s) tt e 15)

  right_code : be_i32 0 s ≡ pos 9994
  unfolding header_of
  right_code = is_code (be_i32 0 s) (passed (header_in s) h (header_tests s) tt e 1)

  -- the header's fields are those of the bytes
  module _ (p : Plain s) where
    code-field : i32_be (pos 9994) ≡ field 4 0 s
    code-field = ap i32_be (sym right_code) ∙ i32_be_of 0 s b (omega (arith, long))

    double-field : (i : ℕ) → i < 8 → f64_le (le_f64 (36 + 8 * i) s) ≡ field 8 (36 + 8 * i) s
    double-field i k = f64_le_of (36 + 8 * i) s b (omega (arith, long)) (p.doubles i k)

    fields_same : fields_of (header_in s) ≡ pieces ws 0 s
    fields_same =
        λ i.
        code-field i
        ∷ sym p.unused i
        ∷ i32_be_of 24 s b (omega (arith, long)) i
        ∷ i32_le_of 28 s b (omega (arith, long)) i
        ∷ i32_le_of 32 s b (omega (arith, long)) i
        ∷ double-field 0 (lit< tt) i
        ∷ double-field 1 (lit< tt) i
        ∷ double-field 2 (lit< tt) i
        ∷ double-field 3 (lit< tt) i
        ∷ double-field 4 (lit< tt) i
        ∷ double-field 5 (lit< tt) i
        ∷ double-field 6 (lit< tt) i
        ∷ double-field 7 (lit< tt) i
        ∷ []

    written : bytes_of h ≡ take 100 s
    written = ap bytes_of (sym held) ∙ (bytes_are (header_in s) ∙ (ap flatten fields_same ∙ (flatten_pieces ws 0 s ∙ field_is 100 0 s)))

  -- and where the bytes come back, each field is as it was
  module _ (w : bytes_of h ≡ take 100 s) where
    back_at : (i : ℕ) → i < 13 → start ws i + get_or ws i 0 ≤ 100 → get_or (fields_of (header_in s)) i [] ≡ field (get_or ws i 0) (start ws i) s
    back_at i k r =
        sym (at (header_in s) i k)
        ∙ (ap (field (get_or ws i 0) (start ws i)) (ap bytes_of held ∙ w)
        ∙ field-take 100 (get_or ws i 0) (start ws i) s r)

    plain_at : (i : ℕ) → i < 8 → f64_le (le_f64 (36 + 8 * i) s) ≡ field 8 (36 + 8 * i) s → PlainNan (le (field 8 (36 + 8 * i) s))
    plain_at i k e = f64_le-only (36 + 8 * i) s b (omega (arith, long)) e

    plain : Plain s
    plain =
        record {
          unused = sym (back_at 1 (lit< tt) (lit≤ tt));
          doubles =
              eight (λ i. PlainNan (le (field 8 (36 + 8 * i) s)))
              (plain_at 0 (lit< tt) (back_at 5 (lit< tt) (lit≤ tt)))
              (plain_at 1 (lit< tt) (back_at 6 (lit< tt) (lit≤ tt)))
              (plain_at 2 (lit< tt) (back_at 7 (lit< tt) (lit≤ tt)))
              (plain_at 3 (lit< tt) (back_at 8 (lit< tt) (lit≤ tt)))
              (plain_at 4 (lit< tt) (back_at 9 (lit< tt) (lit≤ tt)))
              (plain_at 5 (lit< tt) (back_at 10 (lit< tt) (lit≤ tt)))
              (plain_at 6 (lit< tt) (back_at 11 (lit< tt) (lit≤ tt)))
              (plain_at 7 (lit< tt) (back_at 12 (lit< tt) (lit≤ tt)));
        }

pub writes_back : WritesBack
writes_back s h b e = (plain s (all_bytes s b) h e, written s (all_bytes s b) h e)
