use mathlib.Core.Path.{◌≡◌}
use lib.ListN.{length}
use Rattle.whole.specs.Grid.{col_of}
use Rattle.whole.proofs.Grid.{Lines}
use Rattle.tables.specs.Dense.{first_dense}
use Rattle.passes.proofs.scalar.col_pass.Given as goal

abbrev pub invariant-loop-x : goal.invariant-loop-x
invariant-loop-x l = Lines (col_of l.sw) l.sh l.sw (first_dense l.n l.code l.live) l.initial.work l.work l.x × (length l.buf ≡ 32)
