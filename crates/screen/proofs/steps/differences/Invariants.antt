use lib.IntN.{pos, ◌-ℤ◌}
use Rattle.whole.specs.Sums.{item}
use Rattle.whole.specs.Search.{cell_at}
use Rattle.whole.proofs.Fill.{Filling}
use Rattle.screen.proofs.steps.differences.Given as goal

abbrev pub invariant-loop-k : goal.invariant-loop-k
invariant-loop-k l = Filling (pos 0) 16 (λ j. item l.wanted j -ℤ item l.plane (cell_at l.start l.stride 4 j)) l.gaps l.k
