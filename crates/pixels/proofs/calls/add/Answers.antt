-- `pixels::calls::add` meets its contract: a verdict of Done, the residuals, then the block. Assumes nothing.
use mathlib.Core.Path.{refl, sym, ap, ◌∙◌, subst}
use mathlib.Core.List.{List}
use Prim.Native.Nat.{ℕ, ◌+◌, ◌*◌, ◌≤◌, ◌<◌}
use native.Mathlib.Nat as N
use native.Mathlib.Omega.{arith}
use lib.IntN.{ℤ, pos}
use lib.ListN.{length, get_or}
use Rattle.whole.specs.Grid.{grid_of, Bounded}
use Rattle.answers.specs.Answers.{done}
use Rattle.answers.proofs.Verdicts.{ends-err, ends-ok}
use Rattle.tables.specs.declared.size.Size.{Size}
use Rattle.tables.specs.Sizes.{cut}
use Rattle.passes.proofs.Steps.{area}
use Rattle.pixels.specs.Pixels.{repeated, residual_at, pixel_of}
use Rattle.verdicts.specs.Verdicts.{w_of, h_of, Sides}
use Rattle.pixels.specs.Calls.{added_by, added, add_of}
use Rattle.verdicts.proofs.Judging.{add-done, ready, sides, last_row}
use Rattle.pixels.proofs.Served.{residual-bounded, residual-served, block_same}
use Rattle.pixels.proofs.calls.add.Goals as goal

-- what the block's writing asks
abbrev Asked : ℕ → ℕ → ℕ → ℕ → List ℤ → List ℤ → Type 0
Asked w h stride depth dst work =
    (Sides w h × (depth ≤ 12) × (w ≤ stride) × ((r : ℕ) → r < h → r * stride + w ≤ length dst) × Bounded 4096 w h (grid_of stride dst))
    × ((cut h * cut w ≤ length work) × Bounded 4096 (cut w) (cut h) (grid_of (cut w) work))

pub returns-in-Err : goal.returns-in-Err
unfolding add_of
returns-in-Err c =
    rw c.from.ensures (ends-err c.args.dst.now (added c.args.form.rowwise c.args.dst.now c.args.stride c.args.coeff.now c.args.txtp c.args.tx c.args.bd) c.in-Err.reason c.in-Err.ensures)

pub residuals-requires : goal.residuals-requires
residuals-requires c = let p = add-done _ _ _ _ _ _ _ c.in-Ok.ensures in (p.0.size, ready p.0 p.1.fits.long p.1.all.coefficients, N.le_refl 1024)

pub size_of-s-requires : goal.size_of-s-requires
size_of-s-requires c = (add-done _ _ _ _ _ _ _ c.in-Ok.ensures).0.size

pub add_block-requires : goal.add_block-requires
add_block-requires c =
    let p = add-done _ _ _ _ _ _ _ c.in-Ok.ensures in
    let l = sides c.args.tx p.0.size in let q_ = subst (λ (q : Size). Asked q.w q.h c.args.stride c.args.bd c.args.dst.now c.residuals.new.work) (sym c.size_of-s.ensures) (
      (l, p.0.to, p.1.fits.wide, last_row (h_of c.args.tx) c.args.stride (w_of c.args.tx) (length c.args.dst.now) p.1.fits.reach, p.1.all.samples),
      (N.le_trans (area (h_of c.args.tx) (w_of c.args.tx) refl refl) (omega (arith, c.residuals.auto.work)), residual-bounded c.args.form.rowwise c.args.tx c.args.txtp c.args.bd c.args.coeff.now c.residuals.new.work c.residuals.ensures p.0.to),
    ) in record {
      sides = q_.0;
      w_in_bounds = q_.1;
    }

pub returns-in-Ok : goal.returns-in-Ok
unfolding add_of
returns-in-Ok c =
    let p = add-done c.args.form.strict c.args.dst.now c.args.stride c.args.coeff.now c.args.txtp c.args.tx c.args.bd c.in-Ok.ensures in
    let w = w_of c.args.tx in
    let h = h_of c.args.tx in
    let made = added c.args.form.rowwise c.args.dst.now c.args.stride c.args.coeff.now c.args.txtp c.args.tx c.args.bd in
    rw c.finished.ensures (ap (λ (t : List ℤ). (done, t))
    (c.add_block.ensures ∙ ap (λ (q : Size). added_by q.w q.h c.args.bd (repeated q.w q.h (grid_of (cut q.w) c.residuals.new.work)) c.args.dst.now c.args.stride) c.size_of-s.ensures
    ∙ block_same c.args.stride w h (length c.args.dst.now) (λ i d. pixel_of c.args.bd (get_or c.args.dst.now i (pos 0)) d) (λ i. get_or c.args.dst.now i (pos 0))
    (repeated w h (grid_of (cut w) c.residuals.new.work)) (residual_at c.args.form.rowwise c.args.tx c.args.txtp c.args.bd c.args.coeff.now)
    (residual-served c.args.form.rowwise c.args.tx c.args.txtp c.args.bd c.args.coeff.now c.residuals.new.work c.residuals.ensures (sides c.args.tx p.0.size)))
    ∙ ends-ok c.args.dst.now made c.in-Ok.ensures)
