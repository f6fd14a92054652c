use Rattle.tables.proofs.LiveLanes.{Keeping}
use Rattle.lanes.proofs.rest.Given as goal

abbrev pub invariant-loop-i : goal.invariant-loop-i
invariant-loop-i g l = Keeping g.L.Lanes.lane l.live l.initial.c l.c l.i
