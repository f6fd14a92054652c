use lib.IntN.{pos}
use lib.ListN.{get_or}
use Rattle.whole.specs.Sums.{tab}
use Rattle.whole.specs.Lanes.{spot}
use Rattle.whole.proofs.Groups.{LaneFill}
use Rattle.groups.proofs.gather.Given as goal

abbrev pub invariant-loop-i : goal.invariant-loop-i
invariant-loop-i g l = LaneFill g.L.Lanes.lane l.m (λ k x. get_or (tab l.lines (λ j. get_or l.work (spot l.base l.p l.s j x) (pos 0))) k (pos 0)) l.ls l.i
