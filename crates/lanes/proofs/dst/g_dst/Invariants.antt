use Rattle.whole.specs.Sums.{dot_z, row_at, flipped}
use Rattle.whole.specs.Lanes.{col}
use Rattle.whole.proofs.Groups.{LaneFill}
use Rattle.lanes.proofs.dst.g_dst.Given as goal

abbrev pub invariant-loop-i : goal.invariant-loop-i
invariant-loop-i g l = let at = g.L.Lanes.lane in LaneFill at l.n (λ k x. dot_z (row_at l.n l.mat (flipped l.flip l.n x)) (col at k l.c)) l.out l.i
