-- `history::calls::take_out` meets its contract: the block loses its residuals, and the step is taken out of the list. Assumes nothing.
use mathlib.Core.Path.{sym, ◌∙◌, subst}
use mathlib.Core.Bool.{true}
use Prim.Native.Nat.{ℕ, ◌≤◌}
use native.Mathlib.Omega.{arith}
use lib.IntN.{nat_abs}
use Rattle.whole.specs.Sums.{item}
use Rattle.whole.specs.Search.{cell_at}
use Rattle.wht.specs.Calls.{Sixteen}
use Rattle.lossless.specs.Gains.{gained}
use Rattle.lossless.specs.Step.{sample}
use Rattle.lossless.proofs.Adding.{sample-size, change-size}
use Rattle.lossless.proofs.Blocks.{passes}
use Rattle.remain.specs.Remaining.{word, levels_at}
use Rattle.history.specs.Calls.{lent, spots, losses}
use Rattle.history.proofs.calls.take_out.Goals as goal

pub add-requires : goal.add-requires
add-requires c =
    let q = c.requires.undoable.0 in
    let d = word c.args.s.now c.args.i 1 in
    let at = spots c.args.stride (word c.args.s.now c.args.i 2) (word c.args.s.now c.args.i 3) in
    let p = c.args.plane.now in
    let n = c.start_of-start.ensures in
    let t = passes (sample d) at p (item (losses (levels_at c.args.l.now c.args.i))) c.requires.i_bound.1 in (
      record {
        reach = omega (arith, n, q.reach);
        small = λ k h. subst (λ (z : ℕ). nat_abs (item p (cell_at z c.args.stride 4 k)) ≤ 4095) (sym n) (sample-size d (item p (at k)) q.deep (t.present k h));
        gains = subst (Sixteen 1048576) (sym c.losses.ensures) (change-size true q.sixteen);
      },
      q.wide,
    )

pub returns : goal.returns
returns c =
    let n = c.start_of-start.ensures in
    let g = c.losses.ensures in
    let w = c.drop_step.ensures in
    let p = c.add.ensures ∙ (λ k. gained (cell_at (n k) c.args.stride 4) (item (g k)) c.args.plane.now) in
    λ k. lent (p k) (w.0 k) (w.1 k) (w.2 k)
