-- `passes::live::last_line` meets its contract: the lines from x on are empty. Assumes nothing.
use mathlib.Core.Path.{◌≡◌}
use Prim.Native.Nat.{◌+◌, ◌*◌, ◌-◌, ◌<◌}
use native.Mathlib.Omega.{arith}
use Rattle.whole.proofs.Cells.{row_in}
use Rattle.passes.proofs.Living.{lent-dead, line-more}
use Rattle.passes.proofs.live.last_line.Goals as goal

pub loop-x-preserved : goal.loop-x-preserved
loop-x-preserved c =
    let y = c.loop-x.x - 1 in
    let l : y < c.args.top = omega arith in
    let e : c.loop-x.x ≡ y + 1 = omega arith in
    line-more c.args.coeff.now c.args.top c.args.size c.loop-x.x y e c.loop-x.invariant
    (lent-dead c.args.coeff.now (y * c.args.size) c.args.size (row_in c.args.size l c.requires.2) (c.some.ensures c.if-some-ne0.false))
