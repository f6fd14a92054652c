-- `wide::short::grow16` meets its contract: four rows, then four more. Assumes nothing.
use Rattle.std.proofs.Common.{lit≤}
use Rattle.wide.proofs.Growth.{doubled-then}
use Rattle.wide.proofs.short.grow16.Goals as goal

pub returns : goal.returns
returns c = doubled-then c.grow.ensures (lit≤ tt) (lit≤ tt) c.grow-2.ensures
