-- Laws of what the calls answer: each case of a definition from the facts that the code has there.
use mathlib.Core.Path.{◌≡◌, refl, sym, ap, ◌∙◌}
use mathlib.Core.Bool.{Bool, true, false, cond, ◌&&◌}
use mathlib.Core.List.{List, [], ◌∷◌}
use mathlib.Core.Logic.{◌⊎◌, inl, inr}
use Prim.Native.Nat.{ℕ, ◌+◌, ◌-◌, ◌≤◌, ◌<◌}
use native.Mathlib.Omega.{arith}
use lib.Dec.{leb}
use lib.Ieee.{Float, nan, binary64, div, lt, of_bits}
use lib.ListN.{length, get_or, set}
use borrow.Author.Tests.{le-leb, lt-leb, leb-true}
use Rattle.format.specs.Said.{Said, gives, room, tables}
use Rattle.format.proofs.NumberLaws.{zero_bits}
use Rattle.format.proofs.OrderLaws.{passed, given}
use Rattle.std.specs.Prelude.{Ok, Err}
use Rattle.rings.specs.declared.CloseError.TheVariants.{Tables, Room}
use Rattle.rings.specs.Points.{Point, points, equal, closed, appended, number, products, plus, half_sum, outer, inner, turning}
use Rattle.rings.specs.Answers.{run_of, run_tests, of_run, closed_of, turning_of, count_then, closing_of, Closing}
use Rattle.rings.proofs.PointLaws.{point_at, points_from, run_points, closed_at, length_from, appends_none, appends_first, two-bits}

module _ (xs ys : List Float) (n : ℕ) where
  -- ---- what is said of a run

  -- the run ends past the store of x, or else past that of y
  abbrev pub Past : Type 0
  Past = (length xs < n) ⊎ ((n ≤ length xs) × (length ys < n))

  module _ {A : Type 0} (what : List Point → A) where
    past : Past → tables ≡ of_run what xs ys n
    past (inl h) = rw (lt-leb n (length xs) h)
    past (inr (x, h)) = rw (le-leb n (length xs) x, lt-leb n (length ys) h)

    within : n ≤ length xs → n ≤ length ys → (a : A) → what (points_from xs ys 0 n) ≡ a → gives a ≡ of_run what xs ys n
    within x y a e = rw (le-leb n (length xs) x, le-leb n (length ys) y, run_points xs ys n x y) (ap gives (sym e))

  pub closed_past : Past → tables ≡ closed_of xs ys n
  unfolding closed_of
  closed_past h = past closed h

  pub turning_past : Past → tables ≡ turning_of xs ys n
  unfolding turning_of
  turning_past h = past turning h

  module _ (x : n ≤ length xs) (y : n ≤ length ys) where
    pub none_closed : n ≡ 0 → gives false ≡ closed_of xs ys n
    unfolding closed closed_of
    none_closed z = within closed x y false (rw z)

    -- by the first point and the last
    pub ends_closed : (b : Bool) → (n ≡ 0 → ⊥) → b ≡ equal (point_at xs ys 0) (point_at xs ys (n - 1)) → gives b ≡ closed_of xs ys n
    unfolding closed_of
    ends_closed b point e = within closed x y b (closed_at xs ys n point ∙ sym e)

  -- the code's 2.0 and 0.0, by their bits
  pub turning-is : (sum : Float) (below : Bool) → n ≤ length xs → n ≤ length ys → sum ≡ plus (number 0) (products (points_from xs ys 0 n)) → lt (div binary64 sum (of_bits binary64 0x4000_0000_0000_0000)) (of_bits binary64 0) ≡ below → gives (cond below inner outer) ≡ turning_of xs ys n
  unfolding half_sum turning turning_of
  turning-is sum below x y e test =
      within turning x y (cond below inner outer) (rw (← test, e, two-bits, zero_bits))

  -- ---- closing, by what was said of the run

  -- a run past a store is refused, whatever is asked of it
  past_both : {A B : Type 0} (x y : Bool) (a : A) (s : Said B) → tables ≡ cond x (cond y (gives a) tables) tables → tables ≡ cond x (cond y s tables) tables
  past_both true true a s e = absurd (let z : ◌≡◌ {A = ℕ} 0 1 = cc in omega arith)
  past_both true false a s e = refl
  past_both false y a s e = refl

  pub past_store : tables ≡ closed_of xs ys n → Closing xs ys n (Err Tables) xs ys
  unfolding closed_of closing_of
  past_store e =
      record {
        answered = past_both (leb n (length xs)) (leb n (length ys)) (closed (run_of xs ys n)) _ e;
        x_left = refl;
        y_left = refl;
      }

  module _ (b : Bool) (said : gives b ≡ closed_of xs ys n) where
    -- ---- and any other lies in both

    in_x : n ≤ length xs
    unfolding closed_of
    in_x = leb-true n (length xs) (passed (closed (run_of xs ys n)) b (run_tests xs ys n) tt (sym said) 0)

    in_y : n ≤ length ys
    unfolding closed_of
    in_y = leb-true n (length ys) (passed (closed (run_of xs ys n)) b (run_tests xs ys n) tt (sym said) 1)

    is-closed : closed (run_of xs ys n) ≡ b
    unfolding closed_of
    is-closed = given (closed (run_of xs ys n)) b (run_tests xs ys n) tt (sym said)

    -- how many points it has with those that are appended
    count : (ps : List Point) → appended (run_of xs ys n) ≡ ps → count_then (run_of xs ys n) ≡ n + length ps
    count ps e = rw (e, run_points xs ys n in_x in_y, length_from xs ys 0 n)

    -- by the test for room
    by_room : (m : ℕ) (r : Bool) → count_then (run_of xs ys n) ≡ m → leb m (length xs) && leb m (length ys) ≡ r → cond r (gives m) (room 0 m) ≡ closing_of xs ys n
    unfolding closing_of
    by_room m r e t = rw (le-leb n (length xs) in_x, le-leb n (length ys) in_y, e, t)

    -- it is closed or has no point
    appends_nothing : (b ≡ true) ⊎ ((b ≡ false) × (n ≡ 0)) → appended (run_of xs ys n) ≡ []
    unfolding points appended
    appends_nothing (inl h) = appends_none (run_of xs ys n) (is-closed ∙ h)
    appends_nothing (inr (h, none)) = rw none

    pub stays : (b ≡ true) ⊎ ((b ≡ false) × (n ≡ 0)) → Closing xs ys n (Ok n) xs ys
    stays h =
        let e = appends_nothing h in
        record {
          answered = by_room n true (omega (arith, count [] e)) (rw (le-leb n (length xs) in_x, le-leb n (length ys) in_y));
          x_left = rw e;
          y_left = rw e;
        }

  module _ (said : gives false ≡ closed_of xs ys n) where
    module _ (point : n ≡ 0 → ⊥) where
      first-point : appended (run_of xs ys n) ≡ point_at xs ys 0 ∷ []
      first-point =
          let e = run_points xs ys n (in_x false said) (in_y false said) in
          ap appended e ∙ appends_first xs ys n point (ap closed (sym e) ∙ is-closed false said)

      -- the closed run has a point more
      by_one : (r : Bool) → leb (n + 1) (length xs) && leb (n + 1) (length ys) ≡ r → cond r (gives (n + 1)) (room 0 (n + 1)) ≡ closing_of xs ys n
      by_one r t = by_room false said (n + 1) r (count false said (point_at xs ys 0 ∷ []) first-point) t

      no_room : leb (n + 1) (length xs) && leb (n + 1) (length ys) ≡ false → Closing xs ys n (Err (Room (n + 1))) xs ys
      no_room t = record { answered = by_one false t; x_left = refl; y_left = refl }

      x_holds : (length xs ≡ n → ⊥) → leb (n + 1) (length xs) ≡ true
      x_holds x = le-leb (n + 1) (length xs) (omega (arith, in_x false said))

      -- one of the stores ends with the run
      pub no_room_left : (length xs ≡ n) ⊎ ((length xs ≡ n → ⊥) × (length ys ≡ n)) → Closing xs ys n (Err (Room (n + 1))) xs ys
      no_room_left (inl h) = no_room (rw (lt-leb (n + 1) (length xs) (omega arith)))
      no_room_left (inr (x, h)) = no_room (rw (x_holds x, lt-leb (n + 1) (length ys) (omega arith)))

      module _ (x : length xs ≡ n → ⊥) where
        pub gets_first : (length ys ≡ n → ⊥) → Closing xs ys n (Ok (n + 1)) (set xs n (get_or xs 0 nan)) (set ys n (get_or ys 0 nan))
        gets_first y =
            record {
              answered = by_one true (rw (x_holds x, le-leb (n + 1) (length ys) (omega (arith, in_y false said))));
              x_left = rw first-point;
              y_left = rw first-point;
            }
