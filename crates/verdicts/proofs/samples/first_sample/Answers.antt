-- `verdicts::samples::first_sample` meets its contract: a row that fails is searched for; where none fails, every sample is in range. Assumes nothing.
use mathlib.Core.Path.{◌≡◌, sym, ◌∙◌, subst}
use mathlib.Core.Bool.{true}
use Prim.Native.Nat.{ℕ, ◌+◌, ◌*◌, ◌/◌, ◌%◌, ◌<◌}
use native.Mathlib.Nat as N
use native.Mathlib.Omega.{arith}
use borrow.Author.Count.{below_more}
use lib.IntN.{ℤ, pos}
use lib.ListN.{get_or}
use mir.Syntax.{w32}
use mir.Val.{to_z, of_z}
use mir.ValLaws.{to_z-of_z}
use Rattle.whole.specs.Numbers.{in_range}
use Rattle.whole.specs.Search.{cell_at}
use Rattle.whole.proofs.Search.{seek-all}
use Rattle.whole.proofs.Cells.{row_of, column-of}
use Rattle.whole.proofs.Lent.{lent_at, lent-count}
use Rattle.ranges.specs.Cells.{cell_ok}
use Rattle.verdicts.proofs.samples.first_sample.Goals as goal

placed : (stride w k : ℕ) → k / w * stride + k % w ≡ cell_at 0 stride w k
placed stride w k = omega arith

pub loop-r-preserved : goal.loop-r-preserved
loop-r-preserved c =
    let lo = to_z w32 (of_z w32 c.args.lo) in
    let hi = to_z w32 (of_z w32 c.args.hi) in
    let p = c.args.p.now in
    let a = c.loop-r.r * c.args.stride in
    let end = c.requires.2 c.loop-r.r c.loop-r-test.true in
    λ q x l m. below_more (λ k. in_range lo hi (get_or p (k * c.args.stride + x) (pos 0)) ≡ true) c.loop-r.r (λ k h. c.loop-r.invariant k x h m)
    (subst (λ (v : ℤ). in_range lo hi v ≡ true) (lent_at (pos 0) p a c.args.w end x m)
    (c.row_outside-fails.ensures c.if-fails.false x (subst (λ (n : ℕ). x < n) (sym (lent-count (pos 0) p a c.args.w end)) m))) q l

pub returns : goal.returns
returns c =
    let n = c.args.h * c.args.w in
    let rows = rw (to_z-of_z w32 c.args.lo c.ranges.lo, to_z-of_z w32 c.args.hi c.ranges.hi) at c.loop-r.invariant in
    seek-all (cell_ok c.args.lo c.args.hi c.args.p.now 0 c.args.stride c.args.w) 0 n
    (λ k g. let l : k < n = omega arith in subst (λ (j : ℕ). in_range c.args.lo c.args.hi (get_or c.args.p.now j (pos 0)) ≡ true) (placed c.args.stride c.args.w k)
    (rows (k / c.args.w) (k % c.args.w) (N.lt_of_lt_of_le (row_of c.args.w c.args.h k l) c.loop-r-test.false) (column-of c.args.w c.args.h k l)))
    ∙ omega arith
