-- The old form of writing a body: the pairs were lent in one table. What does not speak of pairs is today's.
use Rattle.std.specs.Prelude.{◌≡◌, Bool, true, false, cond, ◌&&◌, ◌||◌, List, [], ◌∷◌, ℕ, ◌*◌, ◌/◌, ◌^◌, leb, ltb, eqb, Float, length, Result}
use Rattle.std.proofs.lemmas.List.Edits.{sets}
use Rattle.format.specs.Encoding.{shape_bytes}
use Rattle.format.specs.Order.{first}
use Rattle.format.specs.Said.{Said, gives, tables, long, room_bytes, unless_refused}
use Rattle.format.specs.Shapes.{Point, Multipoint, Parts, Shape, multipoint, parted, sum}
use Rattle.header.specs.declared.bbox.BBoxZ.{BBoxZ}
use Rattle.layouts.specs.declared.LayoutError.{LayoutError}
use Rattle.layouts.specs.Answers.{body_size, said_layout}
use Rattle.layouts.specs.Tables.{bits, split_by, measure_of, box_of}

-- ---- the shape that the tables describe

abbrev pub points_of : List Float → List Point
points_of [] = []
points_of (x ∷ []) = []
points_of (x ∷ y ∷ xy) = record { x = bits x; y = bits y } ∷ points_of xy

abbrev pub parts_of : Bool → Bool → BBoxZ → List ℕ → List Float → List Float → List Float → Parts
parts_of z m b counts xy zs ms =
    record {
      box = box_of b;
      parts = split_by counts (points_of xy);
      z = measure_of z b.zmin b.zmax zs;
      m = measure_of m b.mmin b.mmax ms;
    }

abbrev pub multipoint_of : Bool → Bool → BBoxZ → List Float → List Float → List Float → Multipoint
multipoint_of z m b xy zs ms =
    record {
      box = box_of b;
      points = points_of xy;
      z = measure_of z b.zmin b.zmax zs;
      m = measure_of m b.mmin b.mmax ms;
    }

abbrev pub several_of : Bool → Bool → Bool → BBoxZ → List ℕ → List Float → List Float → List Float → Shape
several_of true z m b counts xy zs ms = parted (parts_of z m b counts xy zs ms)
several_of false z m b counts xy zs ms = multipoint (multipoint_of z m b xy zs ms)

abbrev pub points_lent : Bool → List ℕ → List Float → ℕ
points_lent parts counts xy = cond parts (sum counts) (length xy / 2)

-- ---- a body

-- xy held 2n
abbrev pub agree : Bool → Bool → Bool → List ℕ → List Float → List Float → List Float → Bool
agree parts z m counts xy zs ms =
    let n = points_lent parts counts xy in
    (parts || eqb (length counts) 0) && eqb (length xy) (2 * n) && eqb (length zs) (cond z n 0) && eqb (length ms) (cond m n 0)

abbrev pub counts_held : Bool → List ℕ → List Float → Bool
counts_held parts counts xy = ltb (length counts) (2 ^ 31) && ltb (points_lent parts counts xy) (2 ^ 31)

abbrev pub lent_size : Bool → Bool → Bool → List ℕ → List Float → ℕ
lent_size parts z m counts xy = body_size parts z m (length counts) (points_lent parts counts xy)

abbrev pub layout_tests : Bool → Bool → Bool → List ℕ → List Float → List Float → List Float → ℕ → List (Bool × Said ℕ)
layout_tests parts z m counts xy zs ms room =
    (agree parts z m counts xy zs ms, tables)
    ∷ (counts_held parts counts xy, long)
    ∷ (leb (lent_size parts z m counts xy) room, room_bytes (lent_size parts z m counts xy))
    ∷ []

abbrev pub layout_of : Bool → Bool → Bool → List ℕ → List Float → List Float → List Float → ℕ → Said ℕ
layout_of parts z m counts xy zs ms room = first (layout_tests parts z m counts xy zs ms room) (gives (lent_size parts z m counts xy))

pub record WritesBody (parts z m : Bool) (b : BBoxZ) (counts : List ℕ) (xy zs ms : List Float) (out : List ℕ) (answer : Result ℕ LayoutError) (out' : List ℕ) : Type 0 where
  pub says : said_layout answer ≡ layout_of parts z m counts xy zs ms (length out)
  pub out_is : out' ≡ unless_refused (said_layout answer) out (sets out 0 (shape_bytes (several_of parts z m b counts xy zs ms)))
