-- What the pair checker's yes means: it is given, with its counts, exactly where the bytes are the file of well-formed shapes of a taken
-- kind with a finite box; and there is no second such file.
use mathlib.Core.Path.{◌≡◌, sym, ap, ◌∙◌, subst}
use mathlib.Core.List.{List}
use mathlib.Core.Option.{some}
use Prim.Native.Nat.{ℕ}
use lib.IntN.{pos}
use Rattle.format.specs.declared.kinds.Kind.{Kind}
use Rattle.format.specs.Encoding.{Box}
use Rattle.format.specs.Kinds.{kind_at}
use Rattle.format.specs.Shapes.{Shape}
use Rattle.format.proofs.ByteLaws.{AllBytes}
use Rattle.format.proofs.HeaderLaws.{box_of}
use Rattle.rules.specs.Meaning.{FileOf, Judged}
use Rattle.rules.specs.Rules.{verdict}
use Rattle.meaning.proofs.Always.{always, taken, kind-known, code_same, box_same, records-behind}
use Rattle.meaning.proofs.Only.{only}
use Rattle.meaning.proofs.Skip.{one_list}

module _ (shp shx : List ℕ) (k k' : Kind) (b b' : Box) (ss ss' : List Shape) (f : FileOf k b ss shp shx) (g : FileOf k' b' ss' shp shx) where
  same_kind : k ≡ k'
  same_kind =
      let code : k.code ≡ k'.code = sym (code_same k b ss shp shx f) ∙ code_same k' b' ss' shp shx g in
      let row : some k ≡ some k' = sym f.kind.in_table ∙ (ap (λ (q : ℕ). kind_at (pos q)) code ∙ g.kind.in_table) in
      cc

  same_box : b ≡ b'
  same_box = ap box_of (sym (box_same k b ss shp shx f) ∙ box_same k' b' ss' shp shx g)

  same_list : ss ≡ ss'
  same_list =
      let g' : FileOf k b' ss' shp shx = subst (λ (q : Kind). FileOf q b' ss' shp shx) (sym same_kind) g in
      one_list (taken k b ss shp shx f) (kind-known k b ss shp shx f) ss ss' 1 50 50 f.fine g'.fine f.is.held g'.is.held
      (sym (records-behind k b ss shp shx f) ∙ records-behind k b' ss' shp shx g')

pub judged : (shp shx : List ℕ) → AllBytes shp → AllBytes shx → Judged shp shx (verdict shp shx)
judged shp shx b bx =
    record { only = only shp shx b bx; always = always shp shx; one_kind = same_kind shp shx; one_box = same_box shp shx; one_list = same_list shp shx }
