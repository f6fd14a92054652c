-- `pixels::calls::residuals` meets its contract: the passes, then the step after the columns. Assumes nothing.
use mathlib.Core.Path.{sym, ap, ◌∙◌, subst}
use Prim.Native.Nat.{◌^◌, ◌≤◌}
use native.Mathlib.Omega.{arith}
use lib.IntN.{ℤ, nat_abs}
use Rattle.tables.specs.Sizes.{size_at}
use Rattle.passes.specs.Passes.{settled_to}
use Rattle.passes.proofs.Steps.{passes-size}
use Rattle.pixels.proofs.calls.residuals.Goals as goal

pub settle-requires : goal.settle-requires
settle-requires c = (
  c.requires.0,
  c.requires.1.deep,
  omega (arith, c.requires.2, c.inv_txfm_passes.auto.work),
  λ r x a b. subst (λ (z : ℤ). nat_abs z ≤ 2 ^ 30) (sym (c.inv_txfm_passes.ensures r x a b)) (passes-size c.args.rowwise c.args.tx c.args.txtp c.args.bd c.args.coeff.now c.requires.1 r x a b),
)
