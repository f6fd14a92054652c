use Rattle.std.proofs.Common.{min}
use Rattle.passes.specs.Passes.{loaded}
use Rattle.wide_rows.specs.Lines.{Silent}
use Rattle.fast.specs.Groups.{Grouped, after_rows}
use Rattle.fast.proofs.block_rows.rows.Given as goal

-- r may pass the number of rows in its last turn
abbrev pub invariant-loop-r : goal.invariant-loop-r
invariant-loop-r l =
    record {
      done : Grouped l.sw l.sh 0 (min l.r l.rows) (after_rows l.sw l.shift (loaded l.rowwise l.scale 8 l.sw l.sh l.coeff)) l.initial.work l.work;
      still : Silent l.sw l.live l.t;
    }
