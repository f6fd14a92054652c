-- `kernels::identity::multiply` meets its contract: the loop multiplies in place. Assumes nothing.
use mathlib.Core.Path.{◌≡◌, refl, ap, ◌∙◌}
use Prim.Native.Nat.{◌*◌, ◌^◌, ◌≤◌, ◌<◌}
use native.Mathlib.Nat as N
use native.Mathlib.Omega.{arith}
use lib.Dec.{lit<}
use lib.IntN.{ℤ, ◌*ℤ◌, nat_abs}
use lib.ListN.{length}
use mir.Syntax.{w32}
use mir.Val.{to_z, of_z}
use mir.ValLaws.{to_z-of_z}
use Rattle.whole.proofs.Num.{Num, times, ask, read}
use Rattle.whole.proofs.Sums.{within_all}
use Rattle.whole.proofs.Fill.{place-more, place-now, place-done}
use Rattle.tables.specs.Dense.{multiplied}
use Rattle.kernels.proofs.identity.multiply.Goals as goal

-- a number as it was, times the factor
one : {z y : ℤ} (k : ℤ) → z ≡ y → nat_abs y ≤ 2 ^ 19 → nat_abs k < 4096 → to_z w32 (of_z w32 (to_z w32 (of_z w32 z) *ℤ k)) ≡ y *ℤ k
one {z} {y} k e s h =
    let y_is : Num y y (2 ^ 19) = record { is = refl; size = s } in
    let k_is : Num k k (nat_abs k) = record { is = refl; size = N.le_refl (nat_abs k) } in
    let z_is : Num (to_z w32 (of_z w32 z)) y (2 ^ 19) = record { is = ap (λ v. to_z w32 (of_z w32 v)) e ∙ to_z-of_z w32 y (ask y_is w32 (lit< tt)); size = s } in
    let room : 2 ^ 19 * nat_abs k < 2 ^ 31 = omega arith in
    (read (times z_is k_is) w32 room).is

pub loop-x-preserved : goal.loop-x-preserved
loop-x-preserved c =
    place-more c.loop-x.invariant (omega arith)
    (one (to_z w32 (of_z w32 c.args.factor)) (place-now c.loop-x.invariant) (within_all (2 ^ 19) c.args.c.now c.requires.1 c.loop-x.x-index) (rw (to_z-of_z w32 c.args.factor c.ranges.factor) c.requires.0))

pub returns : goal.returns
returns c =
    place-done c.loop-x.invariant (omega arith)
    ∙ ap (λ k. multiplied (length c.args.c.now) k c.args.c.now) (to_z-of_z w32 c.args.factor c.ranges.factor)
