-- `record::sizes::has_words`: the size is compared as words, and one that is no words is no formula's.
use borrow.Author.Rules.{rules}
use Rattle.std.proofs.lemmas.Result.{MatchResult-weaker}
use Rattle.format.specs.Lengths.{formula_words}
use Rattle.record.proofs.SizeLaws.{in_words_size}
use Rattle.record.proofs.sizes.has_words.Goals as goal

pub returns : goal.returns
returns c =
    let w = formula_words c.args.f c.args.counts.parts c.args.counts.points in
    in_words_size c.args.size c.requires c.try_from.result c.try_from.ensures c.is_ok_and.result w
    (MatchResult-weaker c.try_from.result c.is_ok_and.ensures (λ v p. search rules) (λ e q. q))
