-- `passes::load::scaled` meets its contract: the product, the sum and the shift, read back. Assumes nothing.
use mathlib.Core.Path.{ap}
use Prim.Native.Nat.{◌*◌}
use lib.Dec.{lit<}
use lib.IntN.{pos, ◌+ℤ◌, ◌*ℤ◌}
use mir.Syntax.{w32}
use mir.Val.{to_z, of_z}
use mir.ValLaws.{to_z-of_z}
use Rattle.whole.proofs.Num.{Num, lit, given, times, shifted, read}
use Rattle.passes.specs.Passes.{scaling}
use Rattle.passes.proofs.Steps.{scale-size, coefficient-size}
use Rattle.passes.proofs.load.scaled.Goals as goal

module _ (c : goal.Then-scale) where
  product : Num (pos 181 *ℤ to_z w32 (of_z w32 c.args.v)) (pos 181 *ℤ c.args.v) (181 * 11864550)
  product = times (lit (pos 181)) (given c.ranges.v (coefficient-size c.args.v (c.requires c.if-scale.true)))

  -- the sum, within 2147483550, which no bound by parts shows
  sum : Num (to_z w32 (of_z w32 (pos 181 *ℤ to_z w32 (of_z w32 c.args.v))) +ℤ pos 128) (pos 181 *ℤ c.args.v +ℤ pos 128) 2147483550
  sum = record { is = ap (λ z. z +ℤ pos 128) (read product w32 (lit< tt)).is; size = scale-size c.args.v (c.requires c.if-scale.true) }

pub returns-then-scale : goal.returns-then-scale
unfolding scaling
returns-then-scale c = rw c.if-scale.true (read (shifted (read (sum c) w32 (lit< tt)) 256) w32 (lit< tt)).is

pub returns-else-scale : goal.returns-else-scale
unfolding scaling
returns-else-scale c = rw c.if-scale.false (to_z-of_z w32 c.args.v c.ranges.v)
