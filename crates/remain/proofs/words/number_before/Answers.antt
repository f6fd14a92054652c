-- `remain::words::number_before` meets its contract: one read, or none. Assumes nothing.
use Rattle.remain.proofs.Finds.{number_is}
use Rattle.remain.proofs.words.number_before.Goals as goal

pub returns : goal.returns
returns c = number_is c.args.s.now c.args.i c.if-i-eq0.false
