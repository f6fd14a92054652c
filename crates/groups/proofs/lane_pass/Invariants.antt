use Prim.Native.Nat.{◌+◌, ◌*◌, ◌-◌}
use lib.IntN.{pos}
use lib.ListN.{get_or}
use Rattle.whole.proofs.Grid.{Lines}
use Rattle.tables.specs.Dense.{first_dense}
use Rattle.groups.proofs.lane_pass.Given as goal

abbrev pub invariant-loop-line : goal.invariant-loop-line
invariant-loop-line g l = Lines (λ t k x. get_or t (k * l.s + x * l.p) (pos 0)) l.m l.count (first_dense l.n l.code l.live) l.initial.work l.work l.line

abbrev pub decreases-loop-line : goal.decreases-loop-line
decreases-loop-line g l = l.count - l.line
