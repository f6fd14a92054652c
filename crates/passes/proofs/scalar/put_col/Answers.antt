-- `passes::scalar::put_col` meets its contract: after r turns the first r rows have the column from the buffer. Assumes nothing.
use mir.Syntax.{w32}
use mir.ValLaws.{to_z-of_z}
use Rattle.whole.proofs.Grid.{put-more}
use Rattle.passes.proofs.scalar.put_col.Goals as goal

pub loop-r-preserved : goal.loop-r-preserved
loop-r-preserved c =
    put-more c.loop-r.invariant c.loop-r-test.true c.requires.1 c.requires.0 (to_z-of_z w32 _ (record { sfits = c.work-1.given }))
