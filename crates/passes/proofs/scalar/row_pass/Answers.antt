-- `passes::scalar::row_pass` meets its contract: after r turns the first r rows have gone through the kernel. Assumes nothing.
use mathlib.Core.Path.{ap, ◌∙◌}
use Prim.Native.Nat.{◌*◌}
use native.Mathlib.Nat as N
use lib.IntN.{pos}
use lib.ListN.{length, get_or}
use Rattle.whole.specs.Grid.{grid_of}
use Rattle.whole.proofs.Fill.{length-tab, tab-at}
use Rattle.whole.proofs.Grid.{row_is, rows_step}
use Rattle.passes.proofs.Living.{live-asks}
use Rattle.passes.proofs.scalar.row_pass.Goals as goal

pub inv_tx1d-requires : goal.inv_tx1d-requires
inv_tx1d-requires c =
    let e = row_is c.loop-r.invariant c.loop-r-test.true c.requires.2 _ (N.add-sub_cancel_left (c.loop-r.r * c.args.sw) c.args.sw) in (
      c.requires.0,
      live-asks c.args.n c.args.live c.args.sw (grid_of c.args.sw c.args.work.now c.loop-r.r) _ c.requires.1 c.requires.3
          (ap length e ∙ length-tab c.args.sw (grid_of c.args.sw c.args.work.now c.loop-r.r))
          (λ k p. ap (λ l. get_or l k (pos 0)) e ∙ tab-at (pos 0) c.args.sw (grid_of c.args.sw c.args.work.now c.loop-r.r) k (N.lt_of_lt_of_le p c.requires.3))
          (λ k p. c.requires.4 c.loop-r.r k c.loop-r-test.true p),
    )

pub loop-r-preserved : goal.loop-r-preserved
loop-r-preserved c =
    rows_step c.loop-r.invariant c.loop-r-test.true c.requires.2 _ (N.add-sub_cancel_left (c.loop-r.r * c.args.sw) c.args.sw) c.inv_tx1d.new.c c.inv_tx1d.auto.c c.inv_tx1d.ensures
