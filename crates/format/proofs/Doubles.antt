-- Points and what stands behind them, z and m, as one list of numbers: read from it and written to it.
use mathlib.Core.Path.{◌≡◌, refl, ap}
use mathlib.Core.Bool.{Bool, true, false}
use mathlib.Core.List.{List, [], ◌∷◌, ◌++◌, append-nil}
use mathlib.Core.Option.{Option, none, some}
use Prim.Native.Nat.{ℕ, suc, ◌+◌, ◌*◌, ◌≤◌}
use native.Mathlib.Omega.{arith}
use lib.ListN.{length, take, drop, get_or, length-append, length-drop, take-append-drop}
use lib.Seq.{length-take-le, take_all, take_at, drop_at}
use Rattle.format.specs.Lengths.{given}
use Rattle.format.specs.Shapes.{Point, Measure, there}
use Rattle.format.specs.WellFormed.{coordinates}
use Rattle.format.proofs.Pairs.{pairs, pairs-written, length-coordinates}

-- ---- what may lack

-- how a thing of `size` numbers is read and written; `Right` are those that have that size
pub record Coded (A : Type 0) : Type 1 where
  pub read : List ℕ → A
  pub write : A → List ℕ
  pub size : ℕ
  pub Right : A → Type 0
  pub read_right : (ds : List ℕ) → size ≤ length ds → Right (read ds)
  pub read_write : (ds : List ℕ) → size ≤ length ds → write (read ds) ≡ take size ds
  pub write_read : (a : A) (t : List ℕ) → Right a → read (write a ++ t) ≡ a
  pub length_write : (a : A) → Right a → length (write a) ≡ size

-- one number
pub one_written : (ds : List ℕ) → 1 ≤ length ds → get_or ds 0 0 ∷ [] ≡ take 1 ds
one_written [] h = absurd (omega arith)
one_written (d ∷ ds) h = refl

abbrev pub value : Coded ℕ
value =
    record {
      read = λ ds. get_or ds 0 0;
      write = λ d. d ∷ [];
      size = 1;
      Right = λ d. Unit {0};
      read_right = λ ds h. tt;
      read_write = one_written;
      write_read = λ a t r. refl;
      length_write = λ a r. refl;
    }

-- a range, and a value for each of n points
abbrev measure_in : ℕ → List ℕ → Measure
measure_in n ds = record { low = get_or ds 0 0; high = get_or ds 1 0; values = take n (drop 2 ds) }

abbrev measure_out : Measure → List ℕ
measure_out r = r.low ∷ r.high ∷ r.values

pub measure_written : (n : ℕ) (ds : List ℕ) → 2 + n ≤ length ds → measure_out (measure_in n ds) ≡ take (2 + n) ds
measure_written n [] h = absurd (omega arith)
measure_written n (a ∷ []) h = absurd (omega arith)
measure_written n (a ∷ b ∷ ds) h = let e : 2 + n ≡ suc (suc n) = omega arith in rw e

abbrev pub measured : ℕ → Coded Measure
measured n =
    record {
      read = measure_in n;
      write = measure_out;
      size = 2 + n;
      Right = λ r. length r.values ≡ n;
      read_right = λ ds h. length-take-le n (drop 2 ds) (rw length-drop (omega arith));
      read_write = measure_written n;
      write_read = λ r t e. λ i. record { low = r.low; high = r.high; values = take_at r.values t n e i };
      length_write = λ r e. omega arith;
    }

module _ {A : Type 0} (C : Coded A) where
  abbrev pub read_if : Bool → List ℕ → Option A
  read_if false ds = none
  read_if true ds = some (C.read ds)

  abbrev pub write_if : Option A → List ℕ
  write_if none = []
  write_if (some a) = C.write a

  abbrev pub RightIf : Option A → Type 0
  RightIf none = Unit {0}
  RightIf (some a) = C.Right a

  pub there-read : (flag : Bool) (ds : List ℕ) → there (read_if flag ds) ≡ flag
  there-read false ds = refl
  there-read true ds = refl

  right_read : (flag : Bool) (ds : List ℕ) → given flag C.size ≤ length ds → RightIf (read_if flag ds)
  right_read false ds h = tt
  right_read true ds h = C.read_right ds h

  length_if : (o : Option A) → RightIf o → length (write_if o) ≡ given (there o) C.size
  length_if none r = refl
  length_if (some a) r = C.length_write a r

  if_written : (flag : Bool) (ds : List ℕ) → given flag C.size ≤ length ds → write_if (read_if flag ds) ≡ take (given flag C.size) ds
  if_written false ds h = refl
  if_written true ds h = C.read_write ds h

  if_read : (o : Option A) (t : List ℕ) → RightIf o → read_if (there o) (write_if o ++ t) ≡ o
  if_read none t r = refl
  if_read (some a) t r = ap {B = Option A} some (C.write_read a t r)

  -- ---- the points, z and m, one behind the other

  abbrev pub all : List Point → Option A → Option A → List ℕ
  all ps z m = coordinates ps ++ (write_if z ++ write_if m)

  abbrev pub z_in : ℕ → Bool → List ℕ → Option A
  z_in n z ds = read_if z (drop (2 * n) ds)

  abbrev pub m_in : ℕ → Bool → Bool → List ℕ → Option A
  m_in n z m ds = read_if m (drop (given z C.size) (drop (2 * n) ds))

  -- how many numbers they are
  abbrev pub count : ℕ → Bool → Bool → ℕ
  count n z m = 2 * n + (given z C.size + given m C.size)

  module _ (n : ℕ) (z m : Bool) (ds : List ℕ) (e : length ds ≡ count n z m) where
    rest : List ℕ
    rest = drop (2 * n) ds

    length_rest : length rest ≡ given z C.size + given m C.size
    unfolding rest
    length_rest = rw length-drop (omega arith)

    last : List ℕ
    last = drop (given z C.size) rest

    length_last : length last ≡ given m C.size
    unfolding last
    length_last = rw length-drop (omega (arith, length_rest))

    pub z_right : RightIf (z_in n z ds)
    unfolding rest
    z_right = right_read z rest (omega (arith, length_rest))

    pub m_right : RightIf (m_in n z m ds)
    unfolding rest last
    m_right = right_read m last (omega (arith, length_last))

    pub all_written : all (pairs n ds) (z_in n z ds) (m_in n z m ds) ≡ ds
    unfolding rest last
    all_written =
        rw (
          pairs-written n ds (omega arith),
          if_written z rest (omega (arith, length_rest)),
          if_written m last (omega (arith, length_last)),
          take_all (given m C.size) last (omega (arith, length_last)),
          take-append-drop (given z C.size) rest,
        )
        (take-append-drop (2 * n) ds)

  module _ (ps : List Point) (z m : Option A) (rz : RightIf z) (rm : RightIf m) where
    pub length_all : length (all ps z m) ≡ count (length ps) (there z) (there m)
    length_all = simp (length-append, length-coordinates, length_if) (omega arith)

    behind : drop (2 * length ps) (all ps z m) ≡ write_if z ++ write_if m
    behind = drop_at (coordinates ps) (write_if z ++ write_if m) (2 * length ps) (length-coordinates ps)

    pub z-back : z_in (length ps) (there z) (all ps z m) ≡ z
    z-back = rw behind (if_read z (write_if m) rz)

    pub m-back : m_in (length ps) (there z) (there m) (all ps z m) ≡ m
    m-back =
        rw (behind, drop_at (write_if z) (write_if m) (given (there z) C.size) (length_if z rz))
        (rw (append-nil (write_if m)) at (if_read m [] rm))
