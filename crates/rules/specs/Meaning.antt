-- What the checker's answer means, in terms of shapes and their encoding: what is proved of it, for a reader. Proofs stand in proofs/.
use Rattle.std.specs.Prelude.{◌≡◌, List, [], ◌∷◌, ℕ, ◌+◌, pos, length}
use Rattle.std.proofs.Math.Option.{some}
use Rattle.format.specs.declared.kinds.Kind.{Kind}
use Rattle.format.specs.Encoding.{Box, IsPair}
use Rattle.format.specs.Kinds.{kind_at}
use Rattle.format.specs.Lengths.{Form, form_of}
use Rattle.format.specs.Shapes.{Shape, Among, parts_in, points_in}
use Rattle.format.specs.WellFormed.{WellFormed, BoxFinite}
use Rattle.format.specs.Said.{Said, gives}
use Rattle.rules.specs.Rules.{Counts}

-- one of the fourteen kinds, and a taken one
pub record TakenKind (k : Kind) : Type 0 where
  pub form : Form
  pub in_table : kind_at (pos k.code) ≡ some k
  pub taken : form_of k ≡ some form

-- every shape is one of the kind or Null, and well-formed
abbrev pub AllWellFormed : Kind → List Shape → Type 0
AllWellFormed k [] = Unit {0}
AllWellFormed k (s ∷ ss) = Among k s × WellFormed k s × AllWellFormed k ss

abbrev pub all_parts : List Shape → ℕ
all_parts [] = 0
all_parts (s ∷ ss) = parts_in s + all_parts ss

abbrev pub all_points : List Shape → ℕ
all_points [] = 0
all_points (s ∷ ss) = points_in s + all_points ss

-- the two files are those of a taken kind with well-formed shapes and a finite box
pub record FileOf (k : Kind) (box : Box) (ss : List Shape) (shp shx : List ℕ) : Type 0 where
  pub kind : TakenKind k
  pub box_finite : BoxFinite box
  pub fine : AllWellFormed k ss
  pub is : IsPair k box ss shp shx

-- there is such a file, and it has so many records, parts and points
pub record Encoded (shp shx : List ℕ) (c : Counts) : Type 0 where
  pub kind : Kind
  pub box : Box
  pub shapes : List Shape
  pub file : FileOf kind box shapes shp shx
  pub records : length shapes ≡ c.records
  pub parts : all_parts shapes ≡ c.parts
  pub points : all_points shapes ≡ c.points

-- What an answer means: yes, with its counts, exactly where there is such a file; and there is no second one.
pub record Judged (shp shx : List ℕ) (v : Said Counts) : Type 0 where
  pub only : (c : Counts) → v ≡ gives c → Encoded shp shx c
  pub always : (c : Counts) → Encoded shp shx c → v ≡ gives c
  pub one_kind : (k k' : Kind) (b b' : Box) (ss ss' : List Shape) → FileOf k b ss shp shx → FileOf k' b' ss' shp shx → k ≡ k'
  pub one_box : (k k' : Kind) (b b' : Box) (ss ss' : List Shape) → FileOf k b ss shp shx → FileOf k' b' ss' shp shx → b ≡ b'
  pub one_list : (k k' : Kind) (b b' : Box) (ss ss' : List Shape) → FileOf k b ss shp shx → FileOf k' b' ss' shp shx → ss ≡ ss'
