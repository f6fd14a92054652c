-- `passes::step::settle` meets its contract: after i turns the first i numbers are settled, the others as they were. Assumes nothing.
use native.Mathlib.Omega.{arith}
use mir.Syntax.{w32}
use mir.ValLaws.{to_z-of_z}
use Rattle.whole.proofs.Fill.{place-done}
use Rattle.passes.proofs.step.settle.Goals as goal

pub returns : goal.returns
returns c =
    rw (← to_z-of_z w32 c.args.lo c.ranges.lo, ← to_z-of_z w32 c.args.hi c.ranges.hi) (place-done c.loop-z.invariant (omega (arith, c.loop-z.invariant.fill.long)))
