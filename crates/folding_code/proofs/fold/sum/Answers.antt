-- `folding_code::fold::sum` meets its contract: the sum of the earlier steps, and one more. Assumes nothing.
use mathlib.Core.Path.{◌≡◌, sym, ap, ◌∙◌, subst}
use Prim.Native.Nat.{ℕ, ◌+◌, ◌*◌, ◌-◌}
use native.Mathlib.Omega.{arith}
use native.Mathlib.Nat.{le_refl}
use lib.IntN.{pos, ◌+ℤ◌}
use lib.ListN.{take, drop}
use Rattle.whole.specs.Sums.{tab, item}
use Rattle.whole.proofs.Fill.{tab-same, tab-at}
use Rattle.wht.specs.Wht.{iwht}
use Rattle.wht.specs.Calls.{Sixteen}
use Rattle.remain.specs.Remaining.{levels_at}
use Rattle.folding.specs.Owners.{owner, total, sum_of}
use Rattle.folding.proofs.Owners.{sum-in}
use Rattle.folding_code.proofs.fold.sum.Goals as goal

pub add-requires : goal.add-requires
add-requires c =
    let a = 16 * c.args.i in
    let q : a + 16 - a ≡ 16 = omega arith in (
      subst (λ (n : ℕ). Sixteen 262144 (take n (drop a c.args.l.now))) (sym q) c.requires.i_bound.3,
      subst (Sixteen 1048576) (sym c.gather.ensures) (sum-in (owner c.args.o.now) c.args.l.now c.args.h c.args.i (λ k i. c.requires.sums.0.part c.args.i k (le_refl c.args.i) i)),
    )

pub returns : goal.returns
returns c =
    let a = 16 * c.args.i in
    let q : a + 16 - a ≡ 16 = omega arith in
    let w = owner c.args.o.now in
    let l = c.args.l.now in
    c.add.ensures
    ∙ (λ t. tab 16 (λ k. item (c.gather.ensures t) k +ℤ item (iwht (take (q t) (drop a l))) k))
    ∙ tab-same 16 (λ k. item (sum_of w l c.args.i c.args.h) k +ℤ item (iwht (levels_at l c.args.i)) k) (λ k. total w l c.args.h c.args.i k +ℤ item (iwht (levels_at l c.args.i)) k)
    (λ k i. ap (λ z. z +ℤ item (iwht (levels_at l c.args.i)) k) (tab-at (pos 0) 16 (total w l c.args.h c.args.i) k i))
