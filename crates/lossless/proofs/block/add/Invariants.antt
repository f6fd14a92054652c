use mathlib.Core.Path.{◌≡◌}
use Rattle.whole.specs.Sums.{item}
use Rattle.whole.specs.Search.{cell_at}
use Rattle.lossless.specs.Gains.{add_on, gain}
use Rattle.lossless.proofs.block.add.Given as goal

abbrev pub invariant-loop-k : goal.invariant-loop-k
invariant-loop-k l = l.plane ≡ add_on (gain (cell_at l.start l.stride 4) (item l.gains) l.k) l.initial.plane
