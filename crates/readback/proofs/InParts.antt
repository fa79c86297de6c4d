-- The bytes of a shape with parts, behind the kind's field, as a body: its counts, its parts and all that follows them are laid out in it.
use mathlib.Core.Path.{◌≡◌, refl, sym, ap, ◌∙◌}
use mathlib.Core.Bool.{true}
use mathlib.Core.List.{List, map, flatten}
use Prim.Native.Nat.{ℕ, ◌+◌, ◌*◌, ◌^◌, ◌<◌}
use native.Mathlib.Omega.{arith}
use lib.IntN.{pos, nat_abs}
use lib.ListN.{length}
use lib.Signed.{non_neg}
use Rattle.format.specs.declared.kinds.Kind.{Kind}
use Rattle.format.specs.Encoding.{starts_from, shape_bytes, shape_words}
use Rattle.format.specs.Numbers.{le_i32}
use Rattle.format.specs.Said.{gives}
use Rattle.format.specs.Shapes.{Parts, parted, there, PartsOf}
use Rattle.format.proofs.Doubles.{measured, count}
use Rattle.format.proofs.Equations.{front-parts, words-parted}
use Rattle.format.proofs.Laid.{several-words, length-shape}
use Rattle.format.proofs.PartsStand.{box_stands, parts_stand, points_stand, starts_stand, doubles_stand}
use Rattle.format.proofs.Places.{Stands, all_behind}
use Rattle.format.proofs.Runs.{run, i32_back}
use Rattle.std.specs.Prelude.{Ok}
use Rattle.multipart.specs.Answers.{counts_of}
use Rattle.multipart.specs.Body.{parts_in, counts_in}
use Rattle.multipart.specs.Walks.{PairsWalk}
use Rattle.multipart.proofs.BodyLaws.{counts_here}
use Rattle.multipart.proofs.CountLaws
use Rattle.multipart.proofs.RestLaws.{parts_found}
use Rattle.multipart.proofs.StartLaws.{counts_laid}
use Rattle.multipart.proofs.StartLaws
use Rattle.readback.specs.Held.{Held}
use Rattle.readback.specs.ReadBack.{Small}
use Rattle.readback.proofs.InBody.{z_place, measure_size, LaidOut}
use Rattle.readback.proofs.Measures.{measure-size}

-- its bytes, its parts and its points
abbrev pub bytes : Parts → List ℕ
bytes s = shape_bytes (parted s)

abbrev pub parts : Parts → ℕ
parts s = length s.parts

abbrev pub points : Parts → ℕ
points s = length (flatten s.parts)

module _ (k : Kind) (s : Parts) (o : PartsOf k s) (v : Held (parted s)) (small : Small (parted s)) where
  abbrev b : List ℕ
  b = bytes s

  -- ---- how long they are

  words : shape_words (parted s) ≡ 22 + 2 * parts s + 4 * count (measured (points s)) (points s) (there s.z) (there s.m)
  words =
      words-parted s
      ∙ (several-words true (there s.z) (there s.m) (parts s) (points s) (λ e. absurd (let z : ◌≡◌ {A = ℕ} 0 1 = cc in omega arith)) ∙ rw (front-parts (parts s)))

  size : length b ≡ z_place true (parts s) (points s) + measure_size s.z (points s) + measure_size s.m (points s)
  size = omega (arith, length-shape k (parted s) o, words, measure-size (there s.z) (points s), measure-size (there s.m) (points s))

  parts_held : parts s < 2 ^ 31
  parts_held = omega (arith, words)

  points_held : points s < 2 ^ 31
  points_held = omega (arith, words)

  -- ---- the counts

  whole : Stands 0 b b
  whole = all_behind 0 b b refl

  at_starts : Stands 40 (run 4 (starts_from 0 s.parts)) b
  at_starts = starts_stand s 0 b whole

  parts_is : le_i32 32 b ≡ pos (parts s)
  parts_is = i32_back (parts s) 32 b parts_held (parts_stand s 0 b whole)

  number_is : le_i32 36 b ≡ pos (points s)
  number_is = i32_back (points s) 36 b points_held (points_stand s 0 b whole)

  parts_are : parts s ≡ parts_in true b
  parts_are = ap nat_abs (sym parts_is)

  found : PairsWalk true b (Ok (points s))
  found =
      parts_found b (parts s) (omega (arith, size)) parts_are (40 + 4 * parts s) (refl, omega (arith, size)) (pos (points s)) (Ok (points s)) (sym number_is)
      (StartLaws.parts_laid s.parts b points_held at_starts (omega (arith, size)))

  pub counts_are : counts_in true b ≡ map length s.parts
  counts_are = sym (counts_here true b (parts s) (pos (points s)) parts_are (sym number_is)) ∙ counts_laid s.parts b points_held at_starts

  pub counts-said : counts_of true b ≡ gives (record { parts = parts s; points = points s })
  counts-said = CountLaws.counts-said true b (parts s) (points s) (omega (arith, size)) (ap non_neg parts_is) parts_are number_is

  pub laid_out : LaidOut true k b (parts s) s.box (flatten s.parts) s.z s.m
  laid_out =
      record {
        of_kind = o.measures;
        held = v;
        size = size;
        box_stands = box_stands s 0 b whole;
        doubles_stand = doubles_stand s 0 b whole;
        parts_are = parts_are;
        points_are = found.1.0;
        counts_pass = CountLaws.counts_pass true b (parts s) (points s) (omega (arith, size)) (ap non_neg parts_is) parts_are number_is;
        pairs_pass = found.0;
      }
