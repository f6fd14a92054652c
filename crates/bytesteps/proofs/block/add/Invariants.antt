use mathlib.Core.Path.{◌≡◌}
use mathlib.Core.List.{map}
use lib.IntN.{pos, nat_abs}
use Rattle.whole.specs.Sums.{item}
use Rattle.whole.specs.Search.{cell_at}
use Rattle.lossless.specs.Gains.{add_on, gain}
use Rattle.bytesteps.proofs.block.add.Given as goal

abbrev pub invariant-loop-k : goal.invariant-loop-k
invariant-loop-k l = l.plane ≡ map nat_abs (add_on (gain (cell_at l.start l.stride 4) (item l.gains) l.k) (map pos l.initial.plane))
