-- Parts that are laid as the paper lays them, each start the number of the points before it: the walk over them finds all their points.
use mathlib.Core.Path.{◌≡◌, refl, sym, ap, ◌∙◌}
use mathlib.Core.Bool.{Bool, true}
use mathlib.Core.List.{List, [], ◌∷◌, ◌++◌, map, flatten}
use Prim.Native.Nat.{ℕ, ◌+◌, ◌*◌, ◌-◌, ◌^◌, ◌≤◌, ◌<◌}
use native.Mathlib.Nat.{add_comm, zero-add}
use native.Mathlib.Omega.{arith}
use lib.Dec.{lit<}
use lib.IntN.{ℤ, pos, ◌-ℤ◌, +ℤ-neg_ℤ_cancel}
use lib.ListN.{length, length-append}
use borrow.Author.Tests.{lt-ltb}
use Rattle.std.specs.Prelude.{Ok}
use Rattle.format.specs.Bytes.{le_bytes}
use Rattle.format.specs.Encoding.{starts_from}
use Rattle.format.specs.Numbers.{le_i32}
use Rattle.format.specs.Order.{first, fields_from}
use Rattle.format.specs.Said.{Said, short}
use Rattle.format.specs.Shapes.{Point, sum}
use Rattle.format.proofs.ByteLaws.{length_le_bytes}
use Rattle.format.proofs.Cuts.{sum-parts}
use Rattle.format.proofs.Equations.{starts_from-cons}
use Rattle.format.proofs.OrderLaws.{fields_whole, first-append}
use Rattle.format.proofs.Places.{Stands, front, back}
use Rattle.format.proofs.Runs.{run, i32_back}
use Rattle.multipart.specs.declared.Body.{Body}
use Rattle.multipart.specs.Body.{part_tests}
use Rattle.multipart.specs.Parts.{is_count, count_of, starts_at}
use Rattle.multipart.specs.Walks.{Passes, end_of, differences_of, PartsWalk}
use Rattle.multipart.proofs.PartLaws.{next_start, last_end, differences_from, one_more, no_more}

-- what is behind a
pub difference : (a b : ℕ) → pos (a + b) -ℤ pos a ≡ pos b
difference a b = rw (add_comm a b) (+ℤ-neg_ℤ_cancel (pos b) (pos a))

abbrev lengths : List (List Point) → List ℤ
lengths parts = map (λ part. pos (length part)) parts

-- ---- the differences of the starts are the parts' lengths

module _ (n : ℕ) (s : List ℕ) (small : n < 2 ^ 31) where
  first-start : (a at : ℕ) (part : List Point) (parts : List (List Point)) → a ≤ n → Stands at (run 4 (starts_from a (part ∷ parts))) s → (le_i32 at s ≡ pos a) × Stands (at + 4) (run 4 (starts_from (a + length part) parts)) s
  unfolding flatten
  first-start a at part parts h p =
      let later : List ℕ = run 4 (starts_from (a + length part) parts) in
      let q : Stands at (le_bytes 4 a ++ later) s = rw (starts_from-cons a part parts) at p in
      (i32_back a at s (omega arith) (front at 4 (le_bytes 4 a) later s (length_le_bytes 4 a) q), back at 4 (le_bytes 4 a) later s (length_le_bytes 4 a) q)

  end_back : (a at : ℕ) (parts : List (List Point)) → a + length (flatten parts) ≡ n → Stands at (run 4 (starts_from a parts)) s → end_of (starts_at (length parts) at s) (pos n) ≡ pos a
  unfolding flatten
  end_back a at [] e p = last_end 0 at s (pos n) (omega arith) ∙ ap pos (omega arith)
  end_back a at (part ∷ parts) e p = next_start (length (part ∷ parts)) at s (pos n) (omega arith) ∙ (first-start a at part parts (omega arith) p).0

  differences-back : (a at : ℕ) (parts : List (List Point)) → a + length (flatten parts) ≡ n → Stands at (run 4 (starts_from a parts)) s → differences_from (length parts) at (pos n) s ≡ lengths parts
  unfolding flatten
  differences-back a at [] e p = no_more 0 at (pos n) s (omega arith)
  differences-back a at (part ∷ parts) e p =
      let here = first-start a at part parts (omega arith) p in
      let f : a + length part + length (flatten parts) ≡ n = omega (arith, length-append part (flatten parts)) in
      let l : length (part ∷ parts) - 1 ≡ length parts = omega arith in
      one_more (length (part ∷ parts)) at (pos n) s (omega arith)
      ∙ rw (
        l,
        end_back (a + length part) (at + 4) parts f here.1,
        here.0,
        difference a (length part),
        differences-back (a + length part) (at + 4) parts f here.1,
      )

-- ---- which are counts, and their tests pass

count_held : (n : ℕ) → n < 2 ^ 31 → is_count (pos n) ≡ true
count_held n h = lt-ltb n (2 ^ 31) h

counts_back : (parts : List (List Point)) → length (flatten parts) < 2 ^ 31 → map count_of (lengths parts) ≡ map length parts
unfolding flatten
counts_back [] h = refl
counts_back (part ∷ parts) h =
    let l = length-append part (flatten parts) in
    rw (count_held (length part) (omega arith), counts_back parts (omega arith))

parts_pass : (start at : ℕ) (parts : List (List Point)) (s : List ℕ) → length (flatten parts) < 2 ^ 31 → at + 16 * length (flatten parts) ≤ length s → Passes (part_tests start at (lengths parts) s)
unfolding flatten part_tests
parts_pass start at [] s h k a = refl
parts_pass start at (part ∷ parts) s h k a =
    let l = length-append part (flatten parts) in
    let n : ℕ = length part in
    let e : n < 2 ^ 31 = omega arith in
    let later : List (Bool × Said Body) = part_tests (start + 4) (at + 16 * n) (lengths parts) s in
    rw (count_held n e)
    (first-append (fields_from 8 (2 * n) at s short) later a
    ∙ (fields_whole 8 (lit< tt) (2 * n) at s short (first later a) (omega arith)
    ∙ parts_pass (start + 4) (at + 16 * n) parts s (omega arith) (omega arith) a))

-- ---- parts whose starts stand from 40 on

module _ (parts : List (List Point)) (s : List ℕ) (small : length (flatten parts) < 2 ^ 31) (p : Stands 40 (run 4 (starts_from 0 parts)) s) where
  abbrev differences_laid : List ℤ
  differences_laid = differences_of (length parts) (pos (length (flatten parts))) s

  lengths_are : differences_laid ≡ lengths parts
  lengths_are = differences-back (length (flatten parts)) s small 0 40 parts (zero-add _) p

  pub counts_laid : map count_of differences_laid ≡ map length parts
  counts_laid = ap (map count_of) lengths_are ∙ counts_back parts small

  pub parts_laid : 40 + 4 * length parts + 16 * length (flatten parts) ≤ length s → PartsWalk (length parts) (pos (length (flatten parts))) s (Ok (length (flatten parts)))
  parts_laid h = (
    rw lengths_are (parts_pass 40 (40 + 4 * length parts) parts s small h),
    (sym (ap sum counts_laid ∙ sum-parts parts), h),
  )
