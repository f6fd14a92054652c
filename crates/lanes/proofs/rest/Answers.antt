-- `lanes::rest` meets its contract: the records from live on are zeros one after the other. Assumes nothing.
use native.Mathlib.Omega.{arith}
use Rattle.tables.proofs.LiveLanes.{keep-start, keep-more, keep-done}
use Rattle.lanes.proofs.rest.Goals as goal

pub loop-i-init : goal.loop-i-init
loop-i-init g c = keep-start g.L.Lanes.lane

pub loop-i-preserved : goal.loop-i-preserved
loop-i-preserved g c = keep-more g.L.Lanes.lane c.loop-i.invariant (omega (arith, c.loop-i.invariant.long, c.requires, c.loop-i-test.true)) c.zero.ensures

pub returns : goal.returns
returns g c k = keep-done g.L.Lanes.lane c.loop-i.invariant c.loop-i-test.false c.requires k
