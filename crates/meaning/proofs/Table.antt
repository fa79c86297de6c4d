-- A taken kind of the table.
use mathlib.Core.Path.{◌≡◌, ap, ◌∙◌}
use mathlib.Core.Option.{some}
use Prim.Native.Nat.{ℕ}
use lib.IntN.{pos}
use Rattle.format.specs.Kinds.{kind_at}
use Rattle.format.specs.Lengths.{form_of}
use Rattle.format.proofs.KindLaws.{found_code}
use Rattle.rules.specs.Rules.{Taken}

pub record Known (t : Taken) : Type 0 where
  pub row : kind_at (pos t.kind.code) ≡ some t.kind
  pub form : form_of t.kind ≡ some t.form

pub known : (n : ℕ) (t : Taken) → kind_at (pos n) ≡ some t.kind → form_of t.kind ≡ some t.form → Known t
known n t h f = record { row = ap (λ (q : ℕ). kind_at (pos q)) (found_code n t.kind h) ∙ h; form = f }
