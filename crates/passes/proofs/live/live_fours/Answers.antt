-- `passes::live::live_fours` meets its contract: the places from 4 k on are 0 in the live lines. Assumes nothing.
use mathlib.Core.Path.{◌≡◌}
use Prim.Native.Nat.{◌+◌, ◌*◌, ◌-◌}
use native.Mathlib.Omega.{arith}
use Rattle.passes.proofs.Living.{fours-more}
use Rattle.passes.proofs.live.live_fours.Goals as goal

pub loop-k-preserved : goal.loop-k-preserved
loop-k-preserved c =
    let e : 4 * c.loop-k.k ≡ 4 * (c.loop-k.k - 1) + 4 = omega arith in
    fours-more c.args.coeff.now c.args.lines c.args.size (4 * c.loop-k.k) (4 * (c.loop-k.k - 1)) e c.loop-k.invariant (c.four_live.ensures c.if-four_live.false)
