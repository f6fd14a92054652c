-- `floats::is_nan` meets its contract, whose tests are these two. Assumes nothing.
use borrow.Author.Tests.{ne_eqb}
use lib.Ieee.{nan_bits}
use Rattle.stream.proofs.floats.is_nan.Goals as goal

pub returns-then-bits-eq255 : goal.returns-then-bits-eq255
unfolding nan_bits
returns-then-bits-eq255 c = rw c.if-bits-eq255.true

pub returns-else-bits-eq255 : goal.returns-else-bits-eq255
unfolding nan_bits
returns-else-bits-eq255 c = rw (ne_eqb _ _ c.if-bits-eq255.false)
