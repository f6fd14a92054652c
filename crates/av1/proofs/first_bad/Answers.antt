-- `av1::first_bad` meets its contract: one row, and its cell k is number k. Assumes nothing.
use mathlib.Core.Path.{◌≡◌, ap, subst}
use mathlib.Core.Bool.{Bool}
use Prim.Native.Nat.{ℕ, ◌+◌, ◌*◌, ◌/◌, ◌%◌, ◌<◌}
use native.Mathlib.Nat as N
use native.Mathlib.Omega.{arith}
use lib.IntN.{pos}
use lib.ListN.{length, get_or}
use mir.Syntax.{w32}
use mir.ValLaws.{to_z-of_z}
use Rattle.whole.specs.Numbers.{in_range}
use Rattle.ranges.specs.Cells.{cell_ok, Finds}
use Rattle.ranges.proofs.Finds.{finds-same}
use Rattle.av1.specs.Calls.{number_ok}
use Rattle.av1.proofs.first_bad.Goals as goal

cell : (n k : ℕ) → k < n → 0 + (k / n) * n + k % n ≡ k
cell n k h = rw (N.div-eq_of_lt h, N.mod-eq_of_lt h) (omega arith)

pub returns : goal.returns
returns c =
    let n = length c.args.t.now in
    let ok : ℕ → Bool = cell_ok c.args.lo c.args.hi c.args.t.now 0 n n in
    let found : Finds ok (1 * n) c.find_outside.result = rw (to_z-of_z w32 c.args.lo c.ranges.lo, to_z-of_z w32 c.args.hi c.ranges.hi) at c.find_outside.ensures in
    finds-same ok (number_ok c.args.lo c.args.hi c.args.t.now) n
    (λ k h. ap (λ (i : ℕ). in_range c.args.lo c.args.hi (get_or c.args.t.now i (pos 0))) (cell n k (omega arith)))
    c.find_outside.result
    (subst (λ (m : ℕ). Finds ok m c.find_outside.result) (N.one-mul n) found)
