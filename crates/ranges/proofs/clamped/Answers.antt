-- `ranges::clamped` meets its contract: the test, and the lesser of two. Assumes nothing.
use mir.Syntax.{w32}
use mir.ValLaws.{to_z-of_z}
use Rattle.whole.proofs.Num.{back}
use Rattle.whole.specs.Numbers.{clamp}
use Rattle.ranges.proofs.clamped.Goals as goal

pub returns-then-z-lo : goal.returns-then-z-lo
unfolding clamp
returns-then-z-lo c =
    let t = rw (to_z-of_z w32 c.args.z c.ranges.z, to_z-of_z w32 c.args.lo c.ranges.lo) at c.if-z-lo.true in
    rw (to_z-of_z w32 c.args.lo c.ranges.lo, t)

pub returns-else-z-lo : goal.returns-else-z-lo
unfolding clamp
returns-else-z-lo c =
    let t = rw (to_z-of_z w32 c.args.z c.ranges.z, to_z-of_z w32 c.args.lo c.ranges.lo) at c.if-z-lo.false in
    let m = rw (to_z-of_z w32 c.args.hi c.ranges.hi, to_z-of_z w32 c.args.z c.ranges.z) at c.min.ensures.value in
    rw (back c.min.type_inv, m, t)
