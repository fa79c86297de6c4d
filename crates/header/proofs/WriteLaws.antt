-- Laws of a header's bytes: they are its fields in turn, and the array that the code stores them in.
use mathlib.Core.Path.{◌≡◌, refl, sym, ◌∙◌}
use mathlib.Core.List.{List, ◌∷◌, ◌++◌, map, flatten, append_assoc}
use Prim.Native.Nat.{ℕ, ◌+◌, ◌≤◌}
use native.Mathlib.Omega.{arith}
use lib.IntN.{pos}
use lib.ListN.{length, drop, replicate, length-append}
use lib.Seq.{sets, sets-eq}
use Rattle.format.specs.Numbers.{i32_be, i32_le, f64_le, f64s_le}
use Rattle.format.proofs.Equations.{header_is, i32_be-is, i32_le-is, f64_le-is, f64s_le-cons, f64s_le-nil}
use Rattle.format.proofs.LayoutLaws.{onto, sets_all}
use Rattle.format.proofs.NumberLaws.{length-i32_be, length-i32_le, length-f64s_le}
use Rattle.header.specs.declared.Header.{Header}
use Rattle.header.specs.Box.{box_list}
use Rattle.header.specs.Writing.{bytes_of}

abbrev pub fields_of : Header → List (List ℕ)
fields_of h =
    i32_be (pos 9994) ∷ replicate 20 0 ∷ i32_be h.file_length.0 ∷ i32_le h.version ∷ i32_le h.shape_type ∷ map f64_le (box_list h.bbox)

pub bytes_are : (h : Header) → bytes_of h ≡ flatten (fields_of h)
unfolding bytes_of
bytes_are h = rw header_is (simp (i32_be-is, i32_le-is, f64_le-is))

-- ---- the array, over zeros

abbrev zeros : List ℕ
zeros = replicate 100 0

-- the unused bytes are there without being stored
code-stored : (a : List ℕ) → length a ≡ 4 → sets zeros 0 a ≡ sets zeros 0 (a ++ replicate 20 0)
code-stored a e =
    let p : 0 + length a ≤ length zeros = omega arith in
    let q : 0 + length (a ++ replicate 20 0) ≤ length zeros = omega (arith, length-append a (replicate 20 0)) in
    rw e at (sets-eq a zeros 0 p)
    ∙ (sym (append_assoc a (replicate 20 0) (drop 24 zeros)) ∙ rw (length-append, e) at (sym (sets-eq (a ++ replicate 20 0) zeros 0 q)))

pub all_stored : (h : Header)
    → sets (sets (sets (sets (sets zeros 0 (i32_be (pos 9994))) 24 (i32_be h.file_length.0)) 28 (i32_le h.version)) 32 (i32_le h.shape_type)) 36 (f64s_le (box_list h.bbox))
    ≡ bytes_of h
unfolding flatten
all_stored h =
    let c = i32_be (pos 9994) in
    let front = c ++ replicate 20 0 in
    let w = i32_be h.file_length.0 in
    let v = i32_le h.version in
    let k = i32_le h.shape_type in
    let b = f64s_le (box_list h.bbox) in
    let s2 = onto zeros (sets zeros 0 c) _ front w 0 24 (simp (length-append, length-i32_be)) (code-stored c (length-i32_be (pos 9994))) refl in
    let s3 = onto zeros _ _ (front ++ w) v 0 28 (simp (length-append, length-i32_be)) s2 refl in
    let s4 = onto zeros _ _ (front ++ w ++ v) k 0 32 (simp (length-append, length-i32_be, length-i32_le)) s3 refl in
    let s5 = onto zeros _ _ (front ++ w ++ v ++ k) b 0 36 (simp (length-append, length-i32_be, length-i32_le)) s4 refl in
    let all : length (front ++ w ++ v ++ k ++ b) ≡ length zeros = simp (length-append, length-i32_be, length-i32_le, length-f64s_le) in
    let e : front ++ w ++ v ++ k ++ b ≡ flatten (fields_of h) = simp (append_assoc, f64s_le-cons, f64s_le-nil) in
    s5 ∙ (sets_all _ zeros all ∙ (e ∙ sym (bytes_are h)))
