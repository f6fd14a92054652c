use mathlib.Core.Path.{◌≡◌}
use mathlib.Core.List.{map}
use lib.ListN.{take}
use Rattle.whole.specs.Sums.{dot_z}
use Rattle.rows.proofs.sums.dot.Given as goal

abbrev pub invariant-loop-j : goal.invariant-loop-j
invariant-loop-j g l = l.acc ≡ dot_z (take l.j l.mat) (map g.T.Number.value l.v)
