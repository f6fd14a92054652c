-- `remain::words::near` meets its contract: the test by a difference is the test by sums. Assumes nothing.
use Rattle.remain.proofs.Sharing.{near_up, near_down}
use Rattle.remain.proofs.words.near.Goals as goal

pub returns-then-a-b : goal.returns-then-a-b
returns-then-a-b c = near_up c.args.a c.args.b c.if-a-b.true

pub returns : goal.returns
returns c = near_down c.args.a c.args.b c.if-a-b.false
