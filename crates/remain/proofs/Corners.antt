-- The cells of a block lie in the index. Assumes nothing.
use Prim.Native.Nat.{ℕ, ◌+◌, ◌*◌, ◌≤◌, ◌<◌}
use native.Mathlib.Nat as N
use native.Mathlib.Omega.{arith}
use Rattle.whole.proofs.Cells.{cell_in}
use Rattle.remain.specs.Touch.{across}

pub few : (rows width : ℕ) → rows ≤ 65536 → width ≤ 65536 → across rows * across width ≤ 16384 * 16384
few rows width h k =
    let a : across rows ≤ 16384 = omega arith in
    let b : across width ≤ 16384 = omega arith in
    N.mul-le-mul a b

pub corner : (rows width y x : ℕ) → y < across rows → x < across width → y * across width + x < across rows * across width
corner rows width y x p q = cell_in p q (N.le_refl (across rows * across width))
