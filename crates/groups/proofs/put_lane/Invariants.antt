use mathlib.Core.Path.{◌≡◌}
use Rattle.whole.specs.Lanes.{walk, puts}
use Rattle.groups.proofs.put_lane.Given as goal

abbrev pub invariant-loop-k : goal.invariant-loop-k
invariant-loop-k g l = l.work ≡ puts l.k (walk l.q l.s) (g.L.Lanes.lane l.r) l.initial.work
