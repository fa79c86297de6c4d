-- What has been judged fits.
use Rattle.layouts.proofs.JudgeLaws.{placed}
use Rattle.layouts.proofs.write_body.Goals as goal

pub put_body-requires : goal.put_body-requires
put_body-requires c = placed _ _ _ _ _ _ _ _ _ c.in_ok-size.size c.in_ok-size.ensures
