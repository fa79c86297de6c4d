-- `format::lengths::lengths_of` meets its contract: by the form of the kind that the table has.
use mathlib.Core.Path.{◌≡◌, sym, ap, ap₂, ◌∙◌}
use mathlib.Core.Bool.{Bool, true, false, cond}
use mathlib.Core.Option.{some}
use Rattle.std.specs.Prelude.{Ok}
use Rattle.format.specs.declared.kinds.Kind.{Kind}
use mir.Syntax.{w32}
use mir.Val.{to_z, of_z}
use mir.ValLaws.{to_z-of_z}
use borrow.Author.Tests.{eq-eqb, ne_eqb}
use Rattle.std.proofs.lemmas.Result.{err_from_is_err_and}
use Rattle.format.specs.declared.lengths.Formula.{Formula}
use Rattle.format.specs.Kinds.{said_found, kind_of, kind_at}
use Rattle.format.specs.Lengths.{one_point, fixed_words, point_words, lengths_for, content_of}
use Rattle.format.specs.Said.{gives}
use Rattle.format.proofs.KindLaws.{kind_found, none_found, named_code}
use Rattle.format.proofs.LengthLaws.{content_none_at, several_lengths, content_by}
use Rattle.format.proofs.lengths.lengths_of.Goals as goal
use Rattle.format.proofs.lengths.lengths_of.Goals.{Start, After-find_kind, After-has_several}

-- the code that an answer carries is the one that was asked
back : (a : Start) → to_z w32 (of_z w32 a.args.code) ≡ a.args.code
back a = to_z-of_z w32 a.args.code a.ranges.code

looked : (c : After-find_kind) → said_found c.find_kind.result ≡ kind_of c.args.code
looked c = c.find_kind.ensures ∙ ap kind_of (back c.before)

found : (c : After-find_kind) (k : Kind) → c.find_kind.result ≡ Ok k → kind_at c.args.code ≡ some k
found c k e = kind_found _ _ (looked c) k e

pub returns-in_err-k : goal.returns-in_err-k
returns-in_err-k c =
    let k = goal.at.returns-in_err-k c in
    let e = err_from_is_err_and c.from_residual.result c.from_residual.ensures.1 in
    let l = looked k.After-find_kind in
    rw (e.1, e.2, named_code _ _ l _ c.in_err-k.was) (content_none_at _ (none_found _ _ l _ c.in_err-k.was))

pub returns-then-k-eq31 : goal.returns-then-k-eq31
returns-then-k-eq31 c =
    let g = goal.at.returns-then-k-eq31 c in
    rw (back g.Start, content_by c.args.code _ (found g.After-find_kind c.in_ok-k.k c.in_ok-k.was), eq-eqb _ 31 c.if-k-eq31.true)

pub returns-then-k-eq0 : goal.returns-then-k-eq0
unfolding fixed_words point_words
returns-then-k-eq0 c =
    let g = goal.at.returns-then-k-eq0 c in
    rw (content_by c.args.code _ (found g.After-find_kind c.in_ok-k.k c.in_ok-k.was), ne_eqb _ 31 c.if-k-eq31.false, eq-eqb _ 0 c.if-k-eq0.true)

-- behind the codes, by whether there are several points
others : (c : After-has_several) (b : Bool) → c.has_several.result ≡ b
    → kind_at c.args.code ≡ some c.in_ok-k.k
    → content_of c.args.code ≡ gives (cond b (several_lengths c.in_ok-k.k.parts c.in_ok-k.k) (lengths_for c.in_ok-k.k one_point))
others c b e h = rw (content_by c.args.code _ h, ne_eqb _ 31 c.if-k-eq31.false, ne_eqb _ 0 c.if-k-eq0.false, sym c.has_several.ensures ∙ e)

pub returns-then-has_several : goal.returns-then-has_several
returns-then-has_several c =
    let g = goal.at.returns-then-has_several c in
    ap₂ (λ (f g : Formula). gives (record { without = f; with = g })) c.of_several.ensures c.of_several-then-has_several.ensures
    ∙ sym (others g.After-has_several true c.if-has_several.true (found g.After-find_kind c.in_ok-k.k c.in_ok-k.was))

pub returns : goal.returns
returns c =
    let g = goal.at.returns c in
    ap (λ (f : Formula). gives (record { without = f; with = f })) c.of_point-point.ensures
    ∙ sym (others g.After-has_several false c.if-has_several.false (found g.After-find_kind c.in_ok-k.k c.in_ok-k.was))
