-- Writing a body of several points into the front of a lent output: the tests in order, the answer in document 01's terms, and the output.
use Rattle.std.specs.Prelude.{◌≡◌, Bool, cond, ◌&&◌, ◌||◌, List, [], ◌∷◌, ℕ, ◌*◌, ◌-◌, ◌^◌, leb, ltb, eqb, Float, length, Result, Ok, Err}
use Rattle.std.proofs.lemmas.List.Edits.{sets}
use Rattle.format.specs.Encoding.{shape_bytes}
use Rattle.format.specs.Lengths.{several_form, content_words}
use Rattle.format.specs.Order.{first}
use Rattle.format.specs.Said.{Said, gives, tables, long, room_bytes, unless_refused}
use Rattle.header.specs.declared.bbox.BBoxZ.{BBoxZ}
use Rattle.layouts.specs.declared.LayoutError.{LayoutError}
use Rattle.layouts.specs.declared.LayoutError.TheVariants.{Tables, Long, Room}
use Rattle.layouts.specs.Tables.{several_of, points_lent}

-- the part counts sum to n, and a multipoint has none; x and y hold n each, and z and m hold n where the layout has them, else 0
abbrev pub agree : Bool → Bool → Bool → List ℕ → List Float → List Float → List Float → List Float → Bool
agree parts z m counts xs ys zs ms =
    let n = points_lent parts counts xs in
    (parts || eqb (length counts) 0) && eqb (length xs) n && eqb (length ys) n && eqb (length zs) (cond z n 0) && eqb (length ms) (cond m n 0)

-- an i32 holds both counts
abbrev pub counts_held : Bool → List ℕ → List Float → Bool
counts_held parts counts xs = ltb (length counts) (2 ^ 31) && ltb (points_lent parts counts xs) (2 ^ 31)

-- the bytes of the body: the content without the kind's field
unfoldable pub body_size : Bool → Bool → Bool → ℕ → ℕ → ℕ
body_size parts z m p n = 2 * content_words (several_form parts) z m p n - 4

abbrev pub lent_size : Bool → Bool → Bool → List ℕ → List Float → ℕ
lent_size parts z m counts xs = body_size parts z m (length counts) (points_lent parts counts xs)

abbrev pub layout_tests : Bool → Bool → Bool → List ℕ → List Float → List Float → List Float → List Float → ℕ → List (Bool × Said ℕ)
layout_tests parts z m counts xs ys zs ms room =
    (agree parts z m counts xs ys zs ms, tables)
    ∷ (counts_held parts counts xs, long)
    ∷ (leb (lent_size parts z m counts xs) room, room_bytes (lent_size parts z m counts xs))
    ∷ []

-- the number of bytes written
unfoldable pub layout_of : Bool → Bool → Bool → List ℕ → List Float → List Float → List Float → List Float → ℕ → Said ℕ
layout_of parts z m counts xs ys zs ms room = first (layout_tests parts z m counts xs ys zs ms room) (gives (lent_size parts z m counts xs))

abbrev pub said_layout : Result ℕ LayoutError → Said ℕ
said_layout (Ok n) = gives n
said_layout (Err Tables) = tables
said_layout (Err Long) = long
said_layout (Err (Room n)) = room_bytes n

-- the answer, and the output: the paper's bytes of the shape, and all else as it was
pub record WritesBody (parts z m : Bool) (b : BBoxZ) (counts : List ℕ) (xs ys zs ms : List Float) (out : List ℕ) (answer : Result ℕ LayoutError) (out' : List ℕ) : Type 0 where
  pub says : said_layout answer ≡ layout_of parts z m counts xs ys zs ms (length out)
  pub out_is : out' ≡ unless_refused (said_layout answer) out (sets out 0 (shape_bytes (several_of parts z m b counts xs ys zs ms)))
