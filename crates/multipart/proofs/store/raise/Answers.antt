-- `multipart::store::raise`: the code's -10e38 is the definition's.
use Rattle.std.proofs.Common.{◌≡◌, Bool, true, false, cond, refl, sym}
use lib.Ieee.{Float, binary64, lt, neg, of_bits}
use Rattle.multipart.specs.Body.{no_data, raised}
use Rattle.multipart.proofs.store.raise.Goals as goal

no-data : neg (of_bits binary64 0x4807_8287_f49c_4a1d) ≡ no_data
unfolding neg of_bits no_data
no-data = refl

-- by the test, which is of -10e38 against the value
by_test : (x : Float) (b : Bool) → lt (neg (of_bits binary64 0x4807_8287_f49c_4a1d)) x ≡ b → cond b x (neg (of_bits binary64 0x4807_8287_f49c_4a1d)) ≡ raised x
unfolding raised
by_test x b e = rw (← no-data, e)

pub returns-then-below : goal.returns-then-below
returns-then-below c = by_test c.args.x true (sym c.if-below.ensures)

pub returns-else-below : goal.returns-else-below
returns-else-below c = by_test c.args.x false (sym c.if-below.ensures)
