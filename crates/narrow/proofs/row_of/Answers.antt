-- `narrow::row_of` meets its contract: the loop fills the row. Assumes nothing.
use Rattle.whole.proofs.Fill.{fill_done}
use Rattle.narrow.proofs.row_of.Goals as goal

pub returns : goal.returns
returns c = fill_done c.loop-l.invariant c.loop-l-test.false
