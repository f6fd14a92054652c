use Rattle.whole.specs.Grid.{grid_of}
use Rattle.whole.proofs.Grid.{Lines}
use Rattle.tables.specs.Dense.{first_dense}
use Rattle.passes.proofs.scalar.row_pass.Given as goal

abbrev pub invariant-loop-r : goal.invariant-loop-r
invariant-loop-r l = Lines (grid_of l.sw) l.sw l.sh (first_dense l.n l.code l.live) l.initial.work l.work l.r
