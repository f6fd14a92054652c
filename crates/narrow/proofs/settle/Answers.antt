-- `narrow::settle` meets its contract: after as many turns the first numbers are rounded, the others as they were. Assumes nothing.
use Rattle.whole.proofs.Fill.{place-done}
use Rattle.narrow.proofs.settle.Goals as goal

pub returns : goal.returns
returns c = place-done c.loop-x.invariant c.loop-x-test.false
