-- `passes::live::four_live` meets its contract: the four places are 0 in the lines so far. Assumes nothing.
use Prim.Native.Nat.{◌+◌, ◌*◌}
use native.Mathlib.Omega.{arith}
use Rattle.whole.proofs.Cells.{row_in}
use Rattle.passes.proofs.Living.{lent-dead, line-done}
use Rattle.passes.proofs.live.four_live.Goals as goal

pub loop-x-preserved : goal.loop-x-preserved
loop-x-preserved c =
    line-done c.args.coeff.now c.args.r c.args.size c.loop-x.x c.loop-x.invariant
    (lent-dead c.args.coeff.now (c.args.r + c.loop-x.x * c.args.size) 4 (omega (arith, row_in c.args.size c.loop-x-test.true c.requires.3, c.requires.0)) (c.some.ensures c.if-some-ne0.false))
