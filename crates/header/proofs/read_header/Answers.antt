-- `header::read_header`: the tests in front pass, and the one that fails, or the last, decides.
use Rattle.std.proofs.Common.{◌≡◌, rules, List, ℕ, length, drop, sym, lit<, SFits, to_z-of_z, ◌∙◌}
use borrow.Author.Tests.{leb-true}
use Rattle.std.specs.Int.{w32}
use Rattle.std.proofs.lemmas.Result.{err_from_is_err_and}
use Rattle.format.specs.Order.{first}
use Rattle.format.specs.Said.{Said, gives, short}
use Rattle.format.proofs.KindLaws.{named_code}
use Rattle.format.proofs.OrderLaws.{fields_whole, fields_cut}
use Rattle.header.specs.declared.Header.{Header}
use Rattle.header.specs.Reading.{header_in, header_tests, header_of}
use Rattle.header.proofs.ReadLaws.{cut_short, code-right, code-wrong, length-right, length-wrong, found_is}
use Rattle.header.proofs.read_header.Goals as goal
use Rattle.header.proofs.read_header.Goals.{Else-code-ne-FILE_CODE, Else-words-lt0, In_ok-find_kind}

-- what is left of the tests from test k on
abbrev left : ℕ → List ℕ → Said Header
left k s = first (drop k (header_tests s)) (gives (header_in s))

at2 : (c : Else-code-ne-FILE_CODE) → header_of c.args.s.now ≡ left 2 c.args.s.now
unfolding header_of
at2 c =
    let z = c.in_ok-code in
    let f : SFits w32 z.code = search rules in
    rw (z.ensures.0, code-right _ _ f z.ensures.1 c.if-code-ne-FILE_CODE.false)

at5 : (c : Else-words-lt0) → header_of c.args.s.now ≡ left 2 c.args.s.now → header_of c.args.s.now ≡ left 5 c.args.s.now
at5 c e =
    let z = c.in_ok-words in
    let f : SFits w32 z.words = search rules in
    e ∙ rw (c.in_ok-whole.ensures.0, z.ensures.0, length-right _ _ f z.ensures.1 c.if-words-lt0.false)

at8 : (c : In_ok-find_kind) → header_of c.args.s.now ≡ left 5 c.args.s.now → header_of c.args.s.now ≡ left 8 c.args.s.now
at8 c e =
    let z = c.in_ok-shape_type in
    let f : SFits w32 z.shape_type = search rules in
    e ∙ rw (c.in_ok-version.ensures.0, z.ensures.0, found_is _ _ _ _ f z.ensures.1 c.find_kind.ensures c.in_ok-find_kind.was)

pub returns-in_err-code : goal.returns-in_err-code
unfolding header_of
returns-in_err-code c =
    let e = c.in_err-code.ensures in
    cut_short _ _ _ _ c.from_residual.ensures.1 e.1 ∙ rw e.0

pub returns-then-code-ne-FILE_CODE : goal.returns-then-code-ne-FILE_CODE
unfolding header_of
returns-then-code-ne-FILE_CODE c =
    let z = c.in_ok-code in
    let f : SFits w32 z.code = search rules in
    rw (to_z-of_z f, z.ensures.0, code-wrong _ _ z.ensures.1 c.if-code-ne-FILE_CODE.true, z.ensures.1)

pub returns-in_err-whole : goal.returns-in_err-whole
returns-in_err-whole c =
    let g = goal.at.returns-in_err-whole c in
    let e = c.in_err-whole.ensures in
    cut_short _ _ _ _ c.from_residual-in_err-whole.ensures.1 e.1 ∙ rw (at2 g.Else-code-ne-FILE_CODE, e.0)

pub returns-in_err-words : goal.returns-in_err-words
returns-in_err-words c =
    let g = goal.at.returns-in_err-words c in
    let e = c.in_err-words.ensures in
    cut_short _ _ _ _ c.from_residual-in_err-words.ensures.1 e.1 ∙ rw (at2 g.Else-code-ne-FILE_CODE, c.in_ok-whole.ensures.0, e.0)

pub returns-then-words-lt0 : goal.returns-then-words-lt0
returns-then-words-lt0 c =
    let g = goal.at.returns-then-words-lt0 c in
    let z = c.in_ok-words in
    let f : SFits w32 z.words = search rules in
    rw (at2 g.Else-code-ne-FILE_CODE, c.in_ok-whole.ensures.0, z.ensures.0, length-wrong _ _ f z.ensures.1 c.if-words-lt0.true)

pub returns-in_err-version : goal.returns-in_err-version
returns-in_err-version c =
    let g = goal.at.returns-in_err-version c in
    let e = c.in_err-version.ensures in
    cut_short _ _ _ _ c.from_residual-in_err-version.ensures.1 e.1 ∙ rw (at5 g.Else-words-lt0 (at2 g.Else-code-ne-FILE_CODE), e.0)

pub returns-in_err-shape_type : goal.returns-in_err-shape_type
returns-in_err-shape_type c =
    let g = goal.at.returns-in_err-shape_type c in
    let e = c.in_err-shape_type.ensures in
    cut_short _ _ _ _ c.from_residual-in_err-shape_type.ensures.1 e.1
    ∙ rw (at5 g.Else-words-lt0 (at2 g.Else-code-ne-FILE_CODE), c.in_ok-version.ensures.0, e.0)

pub returns-in_err-find_kind : goal.returns-in_err-find_kind
returns-in_err-find_kind c =
    let g = goal.at.returns-in_err-find_kind c in
    let r = c.from_residual-in_err-find_kind in
    let e = err_from_is_err_and r.result r.ensures.1 in
    let z = c.in_ok-shape_type in
    let f : SFits w32 z.shape_type = search rules in
    let n = named_code _ _ c.find_kind.ensures _ c.in_err-find_kind.was ∙ to_z-of_z f ∙ z.ensures.1 in
    let k = found_is _ _ _ _ f z.ensures.1 c.find_kind.ensures c.in_err-find_kind.was in
    rw (e.1, e.2, n, at5 g.Else-words-lt0 (at2 g.Else-code-ne-FILE_CODE), c.in_ok-version.ensures.0, z.ensures.0, k)

pub returns-in_err-bbox : goal.returns-in_err-bbox
returns-in_err-bbox c =
    let g = goal.at.returns-in_err-bbox c in
    let s = c.args.s.now in
    let e = c.in_err-bbox.ensures in
    let h = leb-true 36 (length s) c.in_ok-shape_type.ensures.0 in
    cut_short _ _ _ _ c.from_residual-in_err-bbox.ensures.1 e.1
    ∙ rw (at8 g.In_ok-find_kind (at5 g.Else-words-lt0 (at2 g.Else-code-ne-FILE_CODE))) (sym (fields_cut 8 (lit< tt) 8 36 s short (gives (header_in s)) h e.0))

pub returns : goal.returns
returns c =
    let g = goal.at.returns c in
    let s = c.args.s.now in
    let w = c.in_ok-words in
    let v = c.in_ok-version in
    let k = c.in_ok-shape_type in
    let fw : SFits w32 w.words = search rules in
    let fv : SFits w32 v.version = search rules in
    let fk : SFits w32 k.shape_type = search rules in
    let b = c.in_ok-bbox.ensures in
    let all = fields_whole 8 (lit< tt) 8 36 s short (gives (header_in s)) b.0 in
    rw (to_z-of_z fw, to_z-of_z fv, to_z-of_z fk, w.ensures.1, v.ensures.1, k.ensures.1, b.1)
    (sym (at8 g.In_ok-find_kind (at5 g.Else-words-lt0 (at2 g.Else-code-ne-FILE_CODE)) ∙ all))
