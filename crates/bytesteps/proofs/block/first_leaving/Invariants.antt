use mathlib.Core.Path.{◌≡◌}
use mathlib.Core.List.{map}
use Prim.Native.Nat.{◌-◌}
use lib.IntN.{pos}
use Rattle.whole.specs.Sums.{item}
use Rattle.whole.specs.Search.{seek, cell_at}
use Rattle.lossless.specs.Gains.{later_ok}
use Rattle.lossless.specs.Step.{sample}
use Rattle.bytesteps.proofs.block.first_leaving.Given as goal

abbrev pub invariant-loop-k : goal.invariant-loop-k
invariant-loop-k l =
    seek (later_ok (sample 8) (cell_at l.start l.stride 4) (map pos l.plane) (item l.gains)) 0 16
    ≡ seek (later_ok (sample 8) (cell_at l.start l.stride 4) (map pos l.plane) (item l.gains)) l.k (16 - l.k)
