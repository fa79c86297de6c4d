-- Headers without fault stand in front of both files, and behind them the walk passes over well-formed records up to a place.
use mathlib.Core.Path.{◌≡◌, sym, ap₂, ◌∙◌, subst}
use mathlib.Core.List.{List}
use Prim.Native.Nat.{ℕ, ◌*◌}
use native.Mathlib.Nat.{le_refl}
use native.Mathlib.Omega.{arith}
use lib.ListN.{length, drop}
use Rattle.format.specs.Bytes.{field}
use Rattle.format.specs.Encoding.{Box, header_bytes, end_from}
use Rattle.format.specs.WellFormed.{AllFinite, BoxFinite}
use Rattle.format.proofs.ByteLaws.{AllBytes, all_drop}
use Rattle.format.proofs.KindLaws.{found_code}
use Rattle.format.proofs.Runs.{numbers}
use Rattle.format.proofs.Places.{Stands}
use Rattle.format.proofs.HeaderLaws.{box_of, box-of, tail, top_right, tail_right, joined}
use Rattle.rules.specs.Meaning.{TakenKind}
use Rattle.rules.specs.Rules.{Taken, big_at, little_at, walk_from, none_yet}
use Rattle.rules.proofs.FiniteLaws.{finites_all}
use Rattle.rules.proofs.HeaderRules.{Headers}
use Rattle.meaning.proofs.Skip.{plus, skips}
use Rattle.meaning.proofs.Split.{Split, splits}
use Rattle.meaning.proofs.Table.{Known, known}

module _ (shp shx : List ℕ) (b : AllBytes shp) (bx : AllBytes shx) (t : Taken) (h : Headers shp shx t) where
  code_found : t.kind.code ≡ little_at 32 shp
  code_found = found_code (little_at 32 shp) t.kind h.kind.row

  kind-known : Known t
  kind-known = known _ t h.kind.row h.kind.form

  pub taken-kind : TakenKind t.kind
  taken-kind = record { form = t.form; in_table = kind-known.row; taken = kind-known.form }

  abbrev pub box : Box
  box = box_of (numbers 8 8 36 shp)

  pub box_finite : BoxFinite box
  box_finite = subst AllFinite (sym (box-of 36 shp)) (finites_all 8 36 shp b (omega (arith, h.shp_long)) h.finite)

  shp_tail : field 72 28 shp ≡ tail t.kind.code box
  shp_tail = rw code_found (tail_right shp b h.shp_long h.version)

  pub shp-header : Stands 0 (header_bytes (big_at 24 shp) 1000 t.kind.code box) shp
  shp-header = joined shp t.kind.code box b h.shp_long (top_right shp b h.shp_long h.magic h.unused) shp_tail

  pub shx-header : Stands 0 (header_bytes (big_at 24 shx) 1000 t.kind.code box) shx
  shx-header = joined shx t.kind.code box bx h.shx_long (h.same_top ∙ top_right shp b h.shp_long h.magic h.unused) (h.same_tail ∙ shp_tail)

  pub split : Split t (drop 100 shp) (drop 100 shx) 50 1
  split = splits t kind-known (length (drop 100 shp)) (drop 100 shp) (drop 100 shx) 50 1 (le_refl _) (all_drop 100 shp b) (all_drop 100 shx bx)

  pub walked : (sp : Split t (drop 100 shp) (drop 100 shx) 50 1)
      → walk_from t (drop 100 shp) (drop 100 shx) 100 none_yet ≡ walk_from t sp.rest sp.left (2 * end_from 50 sp.shapes) (plus none_yet sp.shapes)
  walked sp =
      ap₂ (λ (l x : List ℕ). walk_from t l x 100 none_yet) (sym sp.file) (sym sp.entries)
      ∙ skips t kind-known sp.shapes 50 none_yet sp.rest sp.left sp.fine sp.held
