-- The bytes of a multipoint, behind the kind's field, as a body: its number of points and all that follows it are laid out in it.
use mathlib.Core.Path.{◌≡◌, refl, sym, ap, ◌∙◌}
use mathlib.Core.Bool.{false}
use mathlib.Core.List.{List, []}
use Prim.Native.Nat.{ℕ, ◌+◌, ◌*◌}
use native.Mathlib.Omega.{arith}
use lib.IntN.{pos, nat_abs}
use lib.ListN.{length}
use lib.Signed.{non_neg}
use Rattle.format.specs.declared.kinds.Kind.{Kind}
use Rattle.format.specs.Encoding.{shape_bytes, shape_words}
use Rattle.format.specs.Numbers.{le_i32}
use Rattle.format.specs.Said.{gives}
use Rattle.format.specs.Shapes.{Multipoint, multipoint, there, MultipointOf}
use Rattle.format.proofs.Doubles.{measured, count}
use Rattle.format.proofs.Equations.{front_many, words-multipoint}
use Rattle.format.proofs.Laid.{several-words, length-shape}
use Rattle.format.proofs.MultipointStands.{box_stands, points_stand, doubles_stand}
use Rattle.format.proofs.Places.{Stands, all_behind}
use Rattle.format.proofs.Runs.{i32_back}
use Rattle.std.specs.Prelude.{Ok}
use Rattle.multipart.specs.Answers.{counts_of}
use Rattle.multipart.specs.Body.{counts_in}
use Rattle.multipart.specs.Walks.{PairsWalk}
use Rattle.multipart.proofs.BodyLaws.{counts_here}
use Rattle.multipart.proofs.CountLaws
use Rattle.multipart.proofs.RestLaws.{points_found}
use Rattle.readback.specs.Held.{Held}
use Rattle.readback.specs.ReadBack.{Small}
use Rattle.readback.proofs.InBody.{z_place, measure_size, LaidOut}
use Rattle.readback.proofs.Measures.{measure-size}

-- its bytes
abbrev pub bytes : Multipoint → List ℕ
bytes s = shape_bytes (multipoint s)

module _ (k : Kind) (s : Multipoint) (o : MultipointOf k s) (v : Held (multipoint s)) (small : Small (multipoint s)) where
  abbrev b : List ℕ
  b = bytes s

  abbrev n : ℕ
  n = length s.points

  words : shape_words (multipoint s) ≡ 20 + 4 * count (measured n) n (there s.z) (there s.m)
  words = words-multipoint s ∙ (several-words false (there s.z) (there s.m) 0 n (λ e. refl) ∙ rw (front_many 0))

  size : length b ≡ z_place false 0 n + measure_size s.z n + measure_size s.m n
  size = omega (arith, length-shape k (multipoint s) o, words, measure-size (there s.z) n, measure-size (there s.m) n)

  whole : Stands 0 b b
  whole = all_behind 0 b b refl

  number_is : le_i32 32 b ≡ pos n
  number_is = i32_back n 32 b (omega (arith, words)) (points_stand s 0 b whole)

  found : PairsWalk false b (Ok n)
  found = points_found b n (ap nat_abs (sym number_is)) (omega (arith, size))

  pub counts_are : counts_in false b ≡ []
  counts_are = sym (counts_here false b 0 (pos n) refl (sym number_is))

  pub counts-said : counts_of false b ≡ gives (record { parts = 0; points = n })
  counts-said = CountLaws.counts-said false b 0 n (omega (arith, size)) (ap non_neg number_is) refl number_is

  pub laid_out : LaidOut false k b 0 s.box s.points s.z s.m
  laid_out =
      record {
        of_kind = o.measures;
        held = v;
        size = size;
        box_stands = box_stands s 0 b whole;
        doubles_stand = doubles_stand s 0 b whole;
        parts_are = refl;
        points_are = found.1.0;
        counts_pass = CountLaws.counts_pass false b 0 n (omega (arith, size)) (ap non_neg number_is) refl number_is;
        pairs_pass = found.0;
      }
