use lib.IntN.{◌*ℤ◌}
use Rattle.lanes.specs.View.{lane}
use Rattle.lanes.proofs.Numbered.{Numbered}
use Rattle.lanes.proofs.LaneLanes.mul_n.Given as goal

abbrev pub invariant-loop-k : goal.invariant-loop-k
invariant-loop-k g l = Numbered g.row.N (λ j. lane l.self j *ℤ l.n) l.r l.k
