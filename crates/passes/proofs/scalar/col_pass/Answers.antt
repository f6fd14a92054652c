-- `passes::scalar::col_pass` meets its contract: after x turns the first x columns have gone through the kernel. Assumes nothing.
use mathlib.Core.Path.{◌≡◌, subst}
use Prim.Native.Nat.{ℕ, ◌+◌, ◌≤◌, ◌<◌}
use native.Mathlib.Omega.{arith}
use lib.ListN.{length-take, length-drop, length-append}
use Rattle.whole.specs.Grid.{grid_of, cols_by}
use Rattle.whole.proofs.Grid.{lines_more}
use Rattle.tables.specs.Dense.{first_dense}
use Rattle.passes.proofs.scalar.col_pass.Goals as goal

only : (k x : ℕ) → x ≤ k → k < x + 1 → x ≡ k
only k x a b = omega arith

pub loop-x-preserved : goal.loop-x-preserved
loop-x-preserved c =
    let u = c.one_col.new.work in (
      lines_more c.loop-x.invariant.0 1 u (omega arith) c.one_col.auto.work
          (λ k r a b z. subst (λ (j : ℕ). grid_of c.args.sw u r j ≡ cols_by (first_dense c.args.n c.args.code c.args.live) c.args.sh (grid_of c.args.sw c.loop-x.work) r j) (only k c.loop-x.x a b) (c.one_col.ensures.by_index_2 r z))
          (λ k r l z nn. c.one_col.ensures.by_index_3 r k z l (λ e. nn (omega arith, omega arith))),
      simp (length-append, length-drop) (omega (arith, simp length-take at c.one_col.auto.buf)),
    )
