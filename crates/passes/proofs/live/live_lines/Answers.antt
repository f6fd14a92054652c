-- `passes::live::live_lines` meets its contract: the lines after the fourth, tested as a whole, then one by one. Assumes nothing.
use Prim.Native.Nat.{◌+◌, ◌*◌, ◌-◌, ◌≤◌}
use native.Mathlib.Nat as N
use native.Mathlib.Omega.{arith}
use lib.ListN.{length}
use Rattle.passes.proofs.Living.{part-dead, lines-tail}
use Rattle.passes.proofs.live.live_lines.Goals as goal

pub returns-then-some-eq0 : goal.returns-then-some-eq0
returns-then-some-eq0 c =
    let cs = c.args.coeff.now in
    let a = 4 * c.args.size in
    let n = c.args.lines * c.args.size - a in
    let fit : a + n ≤ length cs = omega (arith, N.mul-le-mul_right c.args.size c.requires.0, c.requires.3) in
    (N.le_trans c.last_line.ensures.0 c.requires.0, lines-tail cs c.last_line.result c.args.lines c.args.size c.last_line.ensures.0 c.requires.0 c.last_line.ensures.1 (part-dead cs a n fit (c.some-2.ensures c.if-some-eq0.true)))
