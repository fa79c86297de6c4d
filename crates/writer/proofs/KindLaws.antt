-- Laws of the kind that a code has: the table's row with the code, the kind's form, and its formula.
use mathlib.Core.Path.{◌≡◌, refl, sym, ap, ◌∙◌}
use mathlib.Core.Bool.{Bool, true, false}
use mathlib.Core.Option.{Option, none, some, map}
use Prim.Native.Nat.{ℕ}
use native.Mathlib.Omega.{arith}
use lib.IntN.{ℤ}
use mir.Syntax.{w32}
use mir.Val.{SFits, to_z, of_z}
use mir.ValLaws.{to_z-of_z}
use Rattle.format.specs.declared.kinds.Kind.{Kind}
use Rattle.std.specs.Prelude.{Result, Ok, Err}
use Rattle.format.specs.declared.kinds.UnknownKind.{UnknownKind}
use Rattle.format.specs.declared.lengths.KindError.{KindError}
use Rattle.format.specs.declared.lengths.KindError.TheVariants.{Unknown, NotTaken}
use Rattle.format.specs.declared.lengths.Formula.{Formula}
use Rattle.format.specs.declared.lengths.Lengths.{Lengths}
use Rattle.format.specs.Kinds.{kind_at, said_found, or_unknown, kind_of}
use Rattle.format.specs.Lengths.{Form, form_of, form_at, said_content, lengths_for, lengths_of, or_not_taken, lengths_in, content_of}
use Rattle.format.specs.Said.{gives, unknown}
use Rattle.format.specs.Shapes.{there}
use Rattle.writer.specs.Judging.{by_form, by_kind, look_up}

-- ---- what the lookups of the table find

abbrev Looked : Type 0
Looked = Result (Kind × Formula) KindError

module _ (z : ℤ) where
  pub look_unknown : (e : UnknownKind) → said_found (Err e) ≡ kind_of z → ◌≡◌ {A = Looked} (Err (Unknown e.0)) (look_up z)
  unfolding look_up kind_of
  look_unknown e = go (kind_at z)
    where
      go : (o : Option Kind) → unknown e.0 ≡ or_unknown z o → ◌≡◌ {A = Looked} (Err (Unknown e.0)) (by_kind z o)
      go none q = let same : e.0 ≡ z = cc in ap (λ (code : ℤ). Err (Unknown code)) same
      go (some k) q = absurd (let z : ◌≡◌ {A = ℕ} 0 1 = cc in omega arith)

  module _ (k : Kind) (f : said_found (Ok k) ≡ kind_of z) where
    pub look-refused : (e : KindError) → said_content (Err e) ≡ content_of z → ◌≡◌ {A = Looked} (Err e) (look_up z)
    unfolding look_up kind_of content_of lengths_of
    look-refused e = go (kind_at z) f
      where
        by : (x : Kind) (e : KindError) (o : Option Form) → said_content (Err e) ≡ or_not_taken z (map (lengths_for x) o) → ◌≡◌ {A = Looked} (Err e) (by_form z x o)
        by x (Unknown code) none q = absurd (let z : ◌≡◌ {A = ℕ} 4 9 = cc in omega arith)
        by x (NotTaken code) none q = let same : code ≡ z = cc in ap (λ (c : ℤ). Err (NotTaken c)) same
        by x (Unknown code) (some form) q = absurd (let z : ◌≡◌ {A = ℕ} 0 1 = cc in omega arith)
        by x (NotTaken code) (some form) q = absurd (let z : ◌≡◌ {A = ℕ} 0 1 = cc in omega arith)

        go : (o : Option Kind) → gives k ≡ or_unknown z o → said_content (Err e) ≡ lengths_in z o → ◌≡◌ {A = Looked} (Err e) (by_kind z o)
        go none p q = absurd (let z : ◌≡◌ {A = ℕ} 0 1 = cc in omega arith)
        go (some x) p q = by x e (form_of x) q

    pub look_taken : (l : Lengths) → said_content (Ok l) ≡ content_of z → ◌≡◌ {A = Looked} (Ok (k, l.with)) (look_up z)
    unfolding look_up kind_of content_of lengths_of
    look_taken l = go (kind_at z) f
      where
        by : (x : Kind) (o : Option Form) → k ≡ x → gives l ≡ or_not_taken z (map (lengths_for x) o) → ◌≡◌ {A = Looked} (Ok (k, l.with)) (by_form z x o)
        by x none p q = absurd (let z : ◌≡◌ {A = ℕ} 0 1 = cc in omega arith)
        by x (some form) p q = let same : l ≡ lengths_for x form = cc in λ i. Ok (p i, (same i).with)

        go : (o : Option Kind) → gives k ≡ or_unknown z o → gives l ≡ lengths_in z o → ◌≡◌ {A = Looked} (Ok (k, l.with)) (by_kind z o)
        go none p q = absurd (let z : ◌≡◌ {A = ℕ} 0 1 = cc in omega arith)
        go (some x) p q = let same : k ≡ x = cc in by x (form_of x) same q

-- ---- what a lookup says of the code

abbrev pub is_taken : Looked → Bool
is_taken (Ok p) = true
is_taken (Err e) = false

form_some : (z : ℤ) (k : Kind) (o : Option Form) → there o ≡ is_taken (by_form z k o)
form_some z k none = refl
form_some z k (some form) = refl

pub taken_is : (z : ℤ) → there (form_at z) ≡ is_taken (look_up z)
unfolding look_up
taken_is z = go (kind_at z) refl
  where
    go : (o : Option Kind) → kind_at z ≡ o → there (form_at z) ≡ is_taken (by_kind z (kind_at z))
    go none e = rw e
    go (some k) e = rw e (form_some z k (form_of k))

by-kind : (z : ℤ) (k : Kind) (p : Kind × Formula) (o : Option Form) → by_form z k o ≡ Ok p → k ≡ p.0
by-kind z k p none e = absurd (let z : ◌≡◌ {A = ℕ} 0 1 = cc in omega arith)
by-kind z k p (some form) e = ap (λ (r : Looked). first_of r) e
  where
    first_of : Looked → Kind
    first_of (Ok q) = q.0
    first_of (Err x) = k

pub looked_kind : (z : ℤ) (p : Kind × Formula) → look_up z ≡ Ok p → kind_at z ≡ some p.0
unfolding look_up
looked_kind z p e = go (kind_at z) refl e
  where
    go : (o : Option Kind) → kind_at z ≡ o → by_kind z o ≡ Ok p → kind_at z ≡ some p.0
    go none q r = absurd (let z : ◌≡◌ {A = ℕ} 0 1 = cc in omega arith)
    go (some x) q r = q ∙ ap some (by-kind z x p (form_of x) r)

-- what was looked up, of the code as it was passed
pub looked : (z : ℤ) (r : Looked) → SFits w32 z → r ≡ look_up (to_z w32 (of_z w32 z)) → look_up z ≡ r
looked z r f e = sym (e ∙ ap look_up (to_z-of_z w32 z f))
