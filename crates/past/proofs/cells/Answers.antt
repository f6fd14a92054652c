-- `cells` meets its contract: no side has more than 64. Assumes nothing.
use Prim.Native.Nat.{ℕ, ◌*◌, ◌≤◌}
use native.Mathlib.Nat as N
use native.Mathlib.Omega.{arith}
use Rattle.past.proofs.cells.Goals as goal

few : (x y : ℕ) → x ≤ 64 → y ≤ 64 → x * y ≤ 4096
few x y a b = N.mul-le-mul a b

pub returns-clause-most : goal.returns-clause-most
returns-clause-most c = few _ _ (omega (arith, c.requires.1)) (omega (arith, c.requires.0))
