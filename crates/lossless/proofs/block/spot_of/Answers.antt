-- `lossless::block::spot_of` meets its contract: the sum is at most the one that fits. Assumes nothing.
use Prim.Native.Nat.{◌/◌, ◌≤◌}
use native.Mathlib.Nat as N
use native.Mathlib.Omega.{arith}
use Rattle.lossless.proofs.block.spot_of.Goals as goal

row : (c : goal.Start) → c.args.k / 4 ≤ 3
row c = omega (arith, c.requires.0)

pub overflow_mul-result : goal.overflow_mul-result
overflow_mul-result c = record { fits = omega (arith, N.mul-le-mul_right c.args.stride (row c)) }

pub overflow_add-result : goal.overflow_add-result
overflow_add-result c = record { fits = omega (arith, N.mul-le-mul_right c.args.stride (row c)) }

pub overflow_add-result-2 : goal.overflow_add-result-2
overflow_add-result-2 c = record { fits = omega (arith, N.mul-le-mul_right c.args.stride (row c)) }
