-- Laws of a body: where its values stand and that they fit, and what is said of it, by the tests that pass and the one that fails.
use mathlib.Core.Path.{◌≡◌, refl, sym, ap, ◌∙◌}
use mathlib.Core.Bool.{Bool, true, false, cond, not, ◌&&◌, ◌||◌}
use mathlib.Core.List.{List, [], ◌++◌, map}
use Prim.Native.Nat.{ℕ, ◌+◌, ◌*◌, ◌≤◌}
use native.Mathlib.Omega.{arith}
use lib.Dec.{T, leb}
use lib.Ieee.{Float}
use lib.IntN.{ℤ}
use lib.ListN.{length}
use borrow.Author.Tests.{leb-true}
use Rattle.std.specs.Prelude.{Err}
use Rattle.format.specs.Numbers.{le_i32, doubles_at}
use Rattle.format.specs.Order.{first}
use Rattle.format.specs.Said.{Said, gives, room}
use Rattle.format.proofs.OrderLaws.{first-append, is_refusal, kept, both_true}
use Rattle.multipart.specs.declared.Body.{Body}
use Rattle.multipart.specs.declared.Counts.{Counts}
use Rattle.multipart.specs.declared.CountsError.{CountsError}
use Rattle.multipart.specs.declared.CountsError.TheVariants as CountsErrorIs
use Rattle.multipart.specs.declared.BodyError.{BodyError}
use Rattle.multipart.specs.declared.BodyError.TheVariants as BodyErrorIs
use Rattle.multipart.specs.Answers.{refusal, of_counts, said_body, ReadsBody}
use Rattle.multipart.specs.Body.{parts_in, number_at, counts_in, points_in, pairs_at, z_at, m_at, raised, x_in, y_in, z_in, m_in, body_in, count_tests, rest_tests, has_room, room_tests, body_of}
use Rattle.multipart.specs.Parts.{count_of, differences, starts_at}
use Rattle.multipart.specs.Walks.{Passes, Refuses, differences_of, end_after, body_at, Ready}
use Rattle.multipart.proofs.CountLaws.{number_from}
use Rattle.multipart.proofs.RestLaws.{z-place, m-place}

-- ---- where it stands

-- what is read with its number of parts and of points is what the definition has
module _ (parts : Bool) (s : List ℕ) (p points : ℕ) (parts_are : p ≡ parts_in parts s) (points_are : points ≡ points_in parts s) where
  abbrev pairs_place : ℕ
  pairs_place = number_at parts + 4 + 4 * p

  abbrev z_place : ℕ
  z_place = pairs_place + 16 * points

  abbrev m_place : Bool → ℕ
  m_place z = end_after z points z_place

  z-start : z_place ≡ z_at parts s
  z-start = z-place parts s points points_are p parts_are

  m-start : (z : Bool) → m_place z ≡ m_at parts z s
  m-start z = m-place parts s points points_are z z_place z-start

  pub x_here : doubles_at 16 points pairs_place s ≡ x_in parts s
  unfolding x_in pairs_at
  x_here = rw (parts_are, points_are)

  pub y_here : doubles_at 16 points (pairs_place + 8) s ≡ y_in parts s
  unfolding y_in pairs_at
  y_here = rw (parts_are, points_are)

  pub z_here : (z : Bool) → cond z (doubles_at 8 points (z_place + 16) s) [] ≡ z_in parts z s
  unfolding z_in
  z_here z = rw (z-start, points_are)

  pub m_here : (z m : Bool) → cond m (map raised (doubles_at 8 points (m_place z + 16) s)) [] ≡ m_in parts z m s
  unfolding m_in
  m_here z m = rw (m-start z, points_are)

  pub body_here : (z m : Bool) → body_at z m p points z_place s ≡ body_in parts z m s
  unfolding body_in
  body_here z m = rw (m-start z, z-start, parts_are, points_are)

-- by the definition's own counts and place
module _ (parts : Bool) (s : List ℕ) where
  pub x_is : x_in parts s ≡ doubles_at 16 (points_in parts s) (pairs_at parts s) s
  unfolding x_in
  x_is = refl

  pub y_is : y_in parts s ≡ doubles_at 16 (points_in parts s) (pairs_at parts s + 8) s
  unfolding y_in
  y_is = refl

-- the counts of p parts, and none of a multipoint
pub counts_here : (parts : Bool) (s : List ℕ) (p : ℕ) (n : ℤ) → p ≡ parts_in parts s → n ≡ le_i32 (number_at parts) s → cond parts (map count_of (differences_of p n s)) [] ≡ counts_in parts s
unfolding counts_in differences starts_at
counts_here true s p n e f = rw (e, f)
counts_here false s p n e f = refl

-- ---- that it fits

-- the starts end before the pairs do
starts_le : (parts : Bool) (p : ℕ) → cond parts (40 + 4 * p) 0 ≤ number_at parts + 4 + 4 * p
starts_le true p = omega arith
starts_le false p = omega arith

-- a store that is used has room
used_room : (flag : Bool) (n k : ℕ) → (not flag || leb n k) ≡ true → cond flag n 0 ≤ k
used_room true n k e = leb-true n k e
used_room false n k e = omega arith

module _ (parts z m : Bool) (s : List ℕ) (said : Counts) (points counts xs ys zs ms : ℕ) (r : Ready parts z m s said points counts xs ys zs ms) where
  abbrev p : ℕ
  p = said.parts

  pub all_inside : end_after m points (end_after z points (number_at parts + 4 + 4 * p + 16 * points)) ≤ length s
  unfolding m_at
  all_inside = rw (z-place parts s points r.points_are p r.parts_are, r.points_are) r.ends

  pub starts_inside : cond parts (40 + 4 * p) 0 ≤ length s
  starts_inside = omega (arith, all_inside, starts_le parts p)

  pub box_inside : 32 ≤ length s
  box_inside = omega (arith, all_inside, number_from parts)

  with_z : (leb p counts && leb points xs && leb points ys && (not z || leb points zs) ≡ true) × ((not m || leb points ms) ≡ true)
  with_z = both_true _ _ r.room

  with_y : (leb p counts && leb points xs && leb points ys ≡ true) × ((not z || leb points zs) ≡ true)
  with_y = both_true _ _ with_z.0

  with_x : (leb p counts && leb points xs ≡ true) × (leb points ys ≡ true)
  with_x = both_true _ _ with_y.0

  pub counts-room : p ≤ counts
  counts-room = leb-true p counts (both_true _ _ with_x.0).0

  pub x-room : points ≤ xs
  x-room = leb-true points xs (both_true (leb p counts) (leb points xs) with_x.0).1

  pub y-room : points ≤ ys
  y-room = leb-true points ys with_x.1

  pub z-room : cond z points 0 ≤ zs
  z-room = used_room z points zs with_y.1

  pub m-room : cond m points 0 ≤ ms
  m-room = used_room m points ms with_z.1

-- ---- what is said of it

module _ (parts z m : Bool) (s : List ℕ) (counts xs ys zs ms : ℕ) where
  abbrev room_test : List (Bool × Said Body)
  room_test = room_tests parts z m s counts xs ys zs ms

  pub counts-first : body_of parts z m s counts xs ys zs ms ≡ first (count_tests parts s) (first (rest_tests parts z m s) (first room_test (gives (body_in parts z m s))))
  unfolding body_of
  counts-first =
      first-append (count_tests parts s) (rest_tests parts z m s ++ room_test) (gives (body_in parts z m s))
      ∙ ap (first (count_tests parts s)) (first-append (rest_tests parts z m s) room_test (gives (body_in parts z m s)))

  pub counts-refused : (r : Said Body) → Refuses (count_tests parts s) r → r ≡ body_of parts z m s counts xs ys zs ms
  counts-refused r h = sym (counts-first ∙ h (first (rest_tests parts z m s) (first room_test (gives (body_in parts z m s)))))

  module _ (c : Passes (count_tests parts s)) where
    pub rest-refused : (r : Said Body) → Refuses (rest_tests parts z m s) r → r ≡ body_of parts z m s counts xs ys zs ms
    rest-refused r h = sym (counts-first ∙ (c (first (rest_tests parts z m s) (first room_test (gives (body_in parts z m s)))) ∙ h (first room_test (gives (body_in parts z m s)))))

    module _ (p points : ℕ) (parts_are : p ≡ parts_in parts s) (points_are : points ≡ points_in parts s) (t : Passes (rest_tests parts z m s)) where
      room_last : body_of parts z m s counts xs ys zs ms ≡ cond (has_room z m p points counts xs ys zs ms) (gives (body_in parts z m s)) (room p points)
      room_last =
          rw (parts_are, points_are)
          (counts-first
          ∙ (c (first (rest_tests parts z m s) (first room_test (gives (body_in parts z m s)))) ∙ t (first room_test (gives (body_in parts z m s)))))

      pub no_room : has_room z m p points counts xs ys zs ms ≡ false → room p points ≡ body_of parts z m s counts xs ys zs ms
      no_room e = sym (room_last ∙ rw e)

      pub whole-body : has_room z m p points counts xs ys zs ms ≡ true → gives (body_in parts z m s) ≡ body_of parts z m s counts xs ys zs ms
      whole-body e = sym (room_last ∙ rw e)

-- an error of the counts says as one of the body what it says of them
pub said-of_counts : (e : CountsError) → said_body (Err (of_counts e)) ≡ refusal e
said-of_counts (CountsErrorIs.Short c) = refl
said-of_counts (CountsErrorIs.Size at) = refl

-- an error is a refusal
error_refuses : (e : BodyError) → T (is_refusal (said_body (Err e)))
error_refuses (BodyErrorIs.Short c) = tt
error_refuses (BodyErrorIs.Size at) = tt
error_refuses (BodyErrorIs.Room parts points) = tt

-- and leaves the stores as they were
module _ (parts z m : Bool) (s counts : List ℕ) (xs ys zs ms : List Float) where
  pub unread : (e : BodyError) → said_body (Err e) ≡ body_of parts z m s (length counts) (length xs) (length ys) (length zs) (length ms) → ReadsBody parts z m s counts xs ys zs ms (Err e) counts xs ys zs ms
  unread e says =
      let t = error_refuses e in
      let said = said_body (Err e) in
      record {
        says = says;
        counts_are = kept said t counts _;
        x_are = kept said t xs _;
        y_are = kept said t ys _;
        z_are = kept said t zs _;
        m_are = kept said t ms _;
      }
