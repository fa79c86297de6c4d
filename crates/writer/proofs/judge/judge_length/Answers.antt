-- The formula's words decide, and the file's with them.
use Rattle.std.proofs.Common.{◌≡◌, ◌<◌, ◌∙◌, sym, arith}
use Rattle.std.proofs.lemmas.Grind.{common_steps}
use Rattle.format.proofs.LengthLaws.{counted-long, counted-held}
use Rattle.writer.proofs.LengthLaws.{long-content, long-file, held-file}
use Rattle.writer.proofs.judge.judge_length.Goals as goal

pub returns-in_err-content : goal.returns-in_err-content
returns-in_err-content c =
    let a = c.args in
    let parts : c.cast_unsigned-parts.result ≡ a.parts = grind (arith, common_steps) in
    let points : c.cast_unsigned-points.result ≡ a.points = grind (arith, common_steps) in
    let parts_held : a.parts < 2147483648 = grind (arith, common_steps) in
    let points_held : a.points < 2147483648 = grind (arith, common_steps) in
    let long = counted-long a.f _ _ _ c.content_words.ensures c.in_err-content.was in
    rw c.from_residual-in_err-content.ensures (long-content a.words a.f a.parts a.points parts_held points_held (rw (parts, points) at long))

pub returns-in_err-after : goal.returns-in_err-after
returns-in_err-after c =
    let a = c.args in
    let parts : c.cast_unsigned-parts.result ≡ a.parts = grind (arith, common_steps) in
    let points : c.cast_unsigned-points.result ≡ a.points = grind (arith, common_steps) in
    let parts_held : a.parts < 2147483648 = grind (arith, common_steps) in
    let points_held : a.points < 2147483648 = grind (arith, common_steps) in
    let held = counted-held a.f _ _ _ c.content_words.ensures _ c.in_ok-content.was in
    rw c.from_residual-in_err-after.ensures
    (long-file a.words a.f a.parts a.points parts_held points_held _ (rw (parts, points) at held.1) (sym c.words_after.ensures ∙ c.in_err-after.was))

pub returns : goal.returns
returns c =
    let a = c.args in
    let parts : c.cast_unsigned-parts.result ≡ a.parts = grind (arith, common_steps) in
    let points : c.cast_unsigned-points.result ≡ a.points = grind (arith, common_steps) in
    let parts_held : a.parts < 2147483648 = grind (arith, common_steps) in
    let points_held : a.points < 2147483648 = grind (arith, common_steps) in
    let held = counted-held a.f _ _ _ c.content_words.ensures _ c.in_ok-content.was in
    held-file a.words a.f a.parts a.points parts_held points_held _ (rw (parts, points) at held.1) _ (sym c.words_after.ensures ∙ c.in_ok-after.was)
