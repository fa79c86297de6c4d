-- A writer state's kind is known, so both headers are written, and its numbers are not below 0.
use Rattle.std.proofs.Common.{◌≡◌, rules, true, refl, sym, ap, ◌∙◌, arith, ℕ, ◌+◌, ◌*◌, ◌-◌, ℤ, pos, of_z, to_z, to_z-of_z, FitsSigned}
use Rattle.std.specs.Int.{w32}
use Rattle.format.specs.declared.units.Words.{Words}
use Rattle.format.specs.Said.{gives}
use Rattle.header.proofs.WrittenLaws.{header_is}
use Rattle.writer.specs.Finishing.{shp_header, shx_header}
use Rattle.writer.specs.Judging.{natural_of}
use Rattle.writer.specs.State.{state_fine}
use Rattle.writer.proofs.StateLaws.{fine, index_lt, number_natural}
use Rattle.writer.proofs.finish.Goals as goal

pub index_words-requires : goal.index_words-requires
index_words-requires c =
    let s = c.args.s in
    let is-fine : state_fine s ≡ true = sym c.state_fine.ensures ∙ c.if-not-state_fine.false in
    let words_fit : FitsSigned w32 s.words.0 = search rules in
    let number_fits : FitsSigned w32 s.number = search rules in
    rw (to_z-of_z number_fits) (index_lt s (fine s is-fine) words_fit.sfits)

pub returns-in_err-header_bytes : goal.returns-in_err-header_bytes
returns-in_err-header_bytes c =
    let s = c.args.s in
    let is-fine : state_fine s ≡ true = sym c.state_fine.ensures ∙ c.if-not-state_fine.false in
    let kind_fits : FitsSigned w32 s.kind = search rules in
    let f = fine s is-fine in
    let written = header_is _ _ _ _ _ c.header_bytes.ensures _ _ _ f.words-is refl (to_z-of_z kind_fits ∙ f.kind_is) c.settle.ensures f.kind-known in
    absurd (let refused = sym written ∙ c.in_err-header_bytes.was in let z : ◌≡◌ {A = ℕ} 0 1 = cc in omega arith)

pub returns : goal.returns
unfolding shp_header shx_header
returns c =
    let s = c.args.s in
    let is-fine : state_fine s ≡ true = sym c.state_fine.ensures ∙ c.if-not-state_fine.false in
    let number_fits : FitsSigned w32 s.number = search rules in
    let kind_fits : FitsSigned w32 s.kind = search rules in
    let f = fine s is-fine in
    let kind = to_z-of_z kind_fits ∙ f.kind_is in
    let kind_again = ap (λ (z : ℤ). to_z w32 (of_z w32 z)) (to_z-of_z kind_fits) ∙ kind in
    let number = ap natural_of (to_z-of_z number_fits) ∙ number_natural s f in
    let words = ap (λ (w : Words). w.0) c.index_words.ensures ∙ ap (λ (n : ℕ). pos (50 + 4 * (n - 1))) number in
    let shp = sym c.in_ok-header_bytes.was ∙ header_is _ _ _ _ _ c.header_bytes.ensures _ _ _ f.words-is refl kind c.settle.ensures f.kind-known in
    let shx = sym c.in_ok-header_bytes-2.was ∙ header_is _ _ _ _ _ c.header_bytes-2.ensures _ _ _ words refl kind_again c.settle.ensures f.kind-known in
    let shp_is : c.in_ok-header_bytes.field-0 ≡ shp_header s = cc in
    let shx_is : c.in_ok-header_bytes-2.field-0 ≡ shx_header s = cc in
    record { says = rw is-fine (λ i. gives (record { shp = shp_is i; shx = shx_is i })) }
