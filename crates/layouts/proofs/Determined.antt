-- The contract determines the answer and the output: two answers that say the same are the same, since each is read back from what it says.
use mathlib.Core.Path.{◌≡◌, refl, sym, ap, ◌∙◌}
use mathlib.Core.Bool.{Bool, cond}
use mathlib.Core.List.{List}
use Prim.Native.Nat.{ℕ}
use Rattle.std.specs.Prelude.{Result, Ok, Err}
use lib.Dec.{eqb}
use lib.Ieee.{Float}
use lib.IntN.{nat_abs}
use lib.Seq.{sets}
use Rattle.format.specs.Encoding.{shape_bytes}
use Rattle.format.specs.Said.{Said, gives, refuses, unless_refused}
use Rattle.format.proofs.SaidLaws.{value, told_one}
use Rattle.header.specs.declared.bbox.BBoxZ.{BBoxZ}
use Rattle.layouts.specs.declared.LayoutError.{LayoutError}
use Rattle.layouts.specs.declared.LayoutError.TheVariants.{Tables, Long, Room}
use Rattle.layouts.specs.Answers.{said_layout, WritesBody}
use Rattle.layouts.specs.Tables.{several_of}

read_layout : Said ℕ → Result ℕ LayoutError
read_layout (gives n) = Ok n
read_layout (refuses number values) = Err (cond (eqb number 10) Tables (cond (eqb number 7) Long (Room (nat_abs (value values)))))

back_layout : (a : Result ℕ LayoutError) → read_layout (said_layout a) ≡ a
unfolding read_layout
back_layout (Ok n) = refl
back_layout (Err Tables) = refl
back_layout (Err Long) = refl
back_layout (Err (Room n)) = refl

pub one_layout : (a b : Result ℕ LayoutError) → said_layout a ≡ said_layout b → a ≡ b
one_layout = told_one said_layout read_layout back_layout

module _ (parts z m : Bool) (bbox : BBoxZ) (counts : List ℕ) (xs ys zs ms : List Float) (out : List ℕ) where
  pub one_result : (a b : Result ℕ LayoutError) (s t : List ℕ) → WritesBody parts z m bbox counts xs ys zs ms out a s → WritesBody parts z m bbox counts xs ys zs ms out b t → (a ≡ b) × (s ≡ t)
  one_result a b s t p q =
      let e = p.says ∙ sym q.says in
      (one_layout a b e, p.out_is ∙ (ap (λ (said : Said ℕ). unless_refused said out (sets out 0 (shape_bytes (several_of parts z m bbox counts xs ys zs ms)))) e ∙ sym q.out_is))
