use lib.IntN.{pos}
use lib.ListN.{get_or}
use Rattle.whole.specs.Lanes.{col, spot}
use Rattle.whole.proofs.Groups.{Scattering}
use Rattle.groups.proofs.scatter.Given as goal

abbrev pub invariant-loop-i : goal.invariant-loop-i
invariant-loop-i g l = Scattering l.lines l.m (spot l.base l.p l.s) (λ k x. get_or (col g.L.Lanes.lane k l.ls) x (pos 0)) l.initial.work l.work l.i
