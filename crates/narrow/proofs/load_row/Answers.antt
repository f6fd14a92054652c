-- `narrow::load_row` meets its contract: the loop fills the row. Assumes nothing.
use Rattle.whole.proofs.Fill.{fill_done}
use Rattle.narrow.proofs.load_row.Goals as goal

pub returns : goal.returns
returns c = fill_done c.loop-l.invariant c.loop-l-test.false
