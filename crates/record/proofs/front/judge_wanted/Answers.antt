-- `record::front::judge_wanted`: no kind has no tests; the lookup and the code 0 are those of a wanted one.
use mathlib.Core.Path.{◌≡◌, ap, ◌∙◌}
use lib.IntN.{pos}
use lib.Dec.{lit<}
use mir.Syntax.{w32}
use mir.Val.{SFits, to_z, of_z}
use borrow.Author.Rules.{rules}
use Rattle.std.proofs.lemmas.Result.{err_from_is_err_and}
use Rattle.format.specs.Lengths.{said_content, content_of}
use Rattle.format.specs.Said.{not_taken}
use Rattle.format.proofs.SignLaws.{back}
use Rattle.format.proofs.UnitLaws.{bits_same, bits_differ}
use Rattle.record.proofs.FrontLaws.{wanted_unlisted, wanted_null, wanted_well}
use Rattle.record.proofs.front.judge_wanted.Goals.{After-lengths_of}
use Rattle.record.proofs.front.judge_wanted.Goals as goal

code_fits : (c : After-lengths_of) → SFits w32 c.in-Some.code
code_fits c = search rules

code-back : (c : After-lengths_of) → to_z w32 (of_z w32 c.in-Some.code) ≡ c.in-Some.code
code-back c = back w32 c.in-Some.code (code_fits c).sfits

-- what the lookup of the code says
looked : (c : After-lengths_of) → said_content c.lengths_of.result ≡ content_of c.in-Some.code
looked c = c.lengths_of.ensures ∙ ap content_of (code-back c)

zero-fits : SFits w32 (pos 0)
zero-fits = record { sfits = lit< tt }

pub returns-in_err-lengths_of : goal.returns-in_err-lengths_of
returns-in_err-lengths_of c =
    let l = (goal.at.returns-in_err-lengths_of c).After-lengths_of in
    let p = err_from_is_err_and c.from_residual.result c.from_residual.ensures.1 in
    rw (p.1, p.2, c.in-Some.is) (wanted_unlisted c.in-Some.code _ (looked l) _ c.in_err-lengths_of.was)

pub returns-then-code-eq0 : goal.returns-then-code-eq0
returns-then-code-eq0 c =
    let l = (goal.at.returns-then-code-eq0 c).After-lengths_of in
    rw c.in-Some.is
    (λ a.
    ap not_taken (code-back l)
    ∙ wanted_null c.in-Some.code _ (looked l) _ c.in_ok-lengths_of.was (bits_same w32 c.in-Some.code (pos 0) (code_fits l) zero-fits c.if-code-eq0.true) a)

pub returns : goal.returns
returns c =
    let l = (goal.at.returns c).After-lengths_of in
    rw c.in-Some.is (wanted_well c.in-Some.code _ (looked l) _ c.in_ok-lengths_of.was (bits_differ w32 c.in-Some.code (pos 0) c.if-code-eq0.false))
