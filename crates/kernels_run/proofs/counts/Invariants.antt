use mathlib.Core.Path.{◌≡◌}
use lib.ListN.{length}
use Rattle.tables.specs.Sizes.{cut}
use Rattle.kernels_run.proofs.counts.Given as goal

abbrev pub invariant-loop-live : goal.invariant-loop-live
invariant-loop-live g l = length l.part ≡ cut l.n
