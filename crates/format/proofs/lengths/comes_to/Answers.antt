-- `format::lengths::comes_to` meets its contract: by what the counting of the formula's words answers.
use Rattle.std.proofs.Common.{rules}
use Rattle.format.proofs.LengthLaws.{comes-to, too_long}
use Rattle.format.proofs.lengths.comes_to.Goals as goal

pub returns-in-Some : goal.returns-in-Some
returns-in-Some c = comes-to c.args.f c.args.p c.args.n c.args.words (search rules) _ c.content_words.ensures _ c.in-Some.is

pub returns-in-None : goal.returns-in-None
returns-in-None c = too_long c.args.f c.args.p c.args.n c.args.words (search rules) _ c.content_words.ensures c.in-None.is
