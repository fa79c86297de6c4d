-- A record's own kind, Null's or the header's: as its field says it, and as its shape does.
use mathlib.Core.Path.{◌≡◌, refl, ap, ◌∙◌}
use mathlib.Core.Bool.{Bool, true, false, cond}
use mathlib.Core.List.{List}
use Prim.Native.Nat.{ℕ}
use native.Mathlib.Omega.{arith}
use lib.Dec.{eqb}
use lib.IntN.{pos}
use Rattle.format.specs.declared.kinds.Kind.{Kind}
use Rattle.format.specs.Lengths.{Form, nothing, one_point, many_points}
use Rattle.format.specs.Lengths
use Rattle.format.specs.Shapes.{Shape, null, point, multipoint, parted, OfKind, own_kind, Among}
use Rattle.format.specs.WellFormed.{WellFormed}
use Rattle.format.proofs.LengthLaws.{form_flags, null_row, null-form, own-kind}
use Rattle.rules.specs.Rules.{Taken, null_taken, little_at, own_taken}
use Rattle.meaning.proofs.Table.{Known}

-- ---- by the shape

abbrev own_form : Form → Shape → Form
own_form f null = nothing
own_form f (point xy z m) = f
own_form f (multipoint s) = f
own_form f (parted s) = f

abbrev pub shape_taken : Taken → Shape → Taken
shape_taken t s = record { kind = own_kind t.kind s; form = own_form t.form s }

-- to be well-formed is the same by either kind
pub well_own : (k : Kind) (s : Shape) → WellFormed k s → WellFormed (own_kind k s) s
well_own k null v = v
well_own k (point xy z m) v = v
well_own k (multipoint s) v = v
well_own k (parted s) v = v

pub own_well : (k : Kind) (s : Shape) → WellFormed (own_kind k s) s → WellFormed k s
own_well k null v = v
own_well k (point xy z m) v = v
own_well k (multipoint s) v = v
own_well k (parted s) v = v

-- ---- where the header's is a taken kind of the table, the own kind is one

null-known : Known null_taken
null-known = record { row = null_row; form = null-form }

pub field-known : (t : Taken) (l : List ℕ) → Known t → Known (own_taken t l)
field-known t l k = go (eqb (little_at 8 l) 0)
  where
    go : (b : Bool) → Known (cond b null_taken t)
    go true = null-known
    go false = k

pub shape-known : (t : Taken) (s : Shape) → Known t → Known (shape_taken t s)
shape-known t null k = null-known
shape-known t (point xy z m) k = k
shape-known t (multipoint s) k = k
shape-known t (parted s) k = k

-- ---- the field's kind and the shape's are one: of the shape that is read by the field

pub kind-read : (t : Taken) (l : List ℕ) (s : Shape) → Known (own_taken t l) → OfKind (own_taken t l).kind s → own_kind t.kind s ≡ (own_taken t l).kind
kind-read t l s k o = own-kind (pos (own_taken t l).kind.code) (own_taken t l).kind t.kind s k.row o (go (eqb (little_at 8 l) 0))
  where
    go : (b : Bool) → eqb (cond b null_taken t).kind.code 0 ≡ false → t.kind ≡ (cond b null_taken t).kind
    go true e = absurd (let z : ◌≡◌ {A = ℕ} 0 1 = cc in omega arith)
    go false e = refl

-- and of a shape whose code the field has
module _ (t : Taken) (l : List ℕ) (k : Known t) where
  by_code : (c : ℕ) (b : Bool) → little_at 8 l ≡ c → eqb c 0 ≡ b → own_taken t l ≡ cond b null_taken t
  by_code c b e f = ap (λ (q : Bool). cond q null_taken t) (ap (λ (q : ℕ). eqb q 0) e ∙ f)

  pub own_is : (s : Shape) → Among t.kind s → little_at 8 l ≡ (own_kind t.kind s).code → own_taken t l ≡ shape_taken t s
  own_is null o e = by_code 0 true e refl
  own_is (point xy z m) o e = by_code t.kind.code false e (form_flags (pos t.kind.code) t.kind one_point k.row o.form).null_is
  own_is (multipoint s) o e = by_code t.kind.code false e (form_flags (pos t.kind.code) t.kind many_points k.row o.form).null_is
  own_is (parted s) o e = by_code t.kind.code false e (form_flags (pos t.kind.code) t.kind Lengths.parts k.row o.form).null_is
