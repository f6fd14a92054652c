use lib.IntN.{pos, ◌*ℤ◌}
use lib.ListN.{get_or}
use Rattle.whole.specs.Lanes.{col}
use Rattle.whole.proofs.Groups.{LaneFill}
use Rattle.lanes.proofs.by_length.times.Given as goal

abbrev pub invariant-loop-i : goal.invariant-loop-i
invariant-loop-i g l = let at = g.L.Lanes.lane in LaneFill at l.n (λ k x. get_or (col at k l.c) x (pos 0) *ℤ l.f) l.e l.i
