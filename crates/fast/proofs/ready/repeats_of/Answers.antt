-- `fast::ready::repeats_of` meets its contract: the test picks the case. Assumes nothing.
use borrow.Author.Tests.{le-leb, lt-leb}
use Rattle.fast.proofs.ready.repeats_of.Goals as goal

pub returns-then-n-le32 : goal.returns-then-n-le32
returns-then-n-le32 c = rw (le-leb c.args.n 32 c.if-n-le32.true)

pub returns-else-n-le32 : goal.returns-else-n-le32
returns-else-n-le32 c = rw (lt-leb c.args.n 32 c.if-n-le32.false)
