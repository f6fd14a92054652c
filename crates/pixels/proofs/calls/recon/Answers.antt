-- `pixels::calls::recon` meets its contract: a verdict of Done, the residuals, then the block. Assumes nothing.
use mathlib.Core.Path.{refl, sym, ap, ◌∙◌, subst}
use mathlib.Core.List.{List}
use Prim.Native.Nat.{ℕ, ◌*◌, ◌≤◌}
use native.Mathlib.Nat as N
use native.Mathlib.Omega.{arith}
use lib.Ieee
use lib.Ieee.{Float}
use lib.IntN.{ℤ, pos}
use lib.ListN.{length, get_or}
use Rattle.whole.specs.Grid.{grid_of, Bounded}
use Rattle.answers.specs.Answers.{done}
use Rattle.answers.specs.Reasons.{answer_of}
use Rattle.answers.proofs.Verdicts.{ends-err, ends-ok}
use Rattle.tables.specs.declared.size.Size.{Size}
use Rattle.tables.specs.Sizes.{cut}
use Rattle.passes.proofs.Steps.{area}
use Rattle.pixels.specs.Pixels.{repeated, residual_at, pixel_of, pixel_f}
use Rattle.verdicts.specs.Verdicts.{w_of, h_of, Sides}
use Rattle.pixels.specs.Calls.{filled_by, filled, float_of, reading_of}
use Rattle.verdicts.proofs.Judging.{float-done, ready, sides}
use Rattle.pixels.proofs.Floats.{exact-call}
use Rattle.pixels.proofs.Served.{residual-bounded, residual-served, block_same}
use Rattle.pixels.proofs.calls.recon.Goals as goal

-- what the block's writing asks
abbrev Asked : ℕ → ℕ → ℕ → ℕ → List ℤ → List ℤ → Type 0
Asked w h room depth pred work =
    (Sides w h × (depth ≤ 12) × (h * w ≤ room) × (h * w ≤ length pred) × Bounded 4096 w h (grid_of w pred))
    × ((cut h * cut w ≤ length work) × Bounded 4096 (cut w) (cut h) (grid_of (cut w) work))

pub returns-in-Err : goal.returns-in-Err
unfolding float_of
returns-in-Err c =
    let e = ends-err c.args.out.now (filled c.args.form.rowwise c.args.out.now c.args.coeff.now c.args.txtp c.args.tx c.args.bd c.args.pred.now) c.in-Err.reason c.in-Err.ensures in
    rw c.from.ensures (record {
      out_after = e;
      exact = exact-call (reading_of c.args.form) c.args.out.now c.args.coeff.now c.args.txtp c.args.tx c.args.bd c.args.pred.now (answer_of c.in-Err.reason) c.args.out.now e;
    })

pub residuals-requires : goal.residuals-requires
residuals-requires c = let p = float-done _ _ _ _ _ _ _ c.in-Ok.ensures in (p.0.size, ready p.0 p.1.fits.long p.1.all.coefficients, N.le_refl 1024)

pub size_of-s-requires : goal.size_of-s-requires
size_of-s-requires c = (float-done _ _ _ _ _ _ _ c.in-Ok.ensures).0.size

pub fill_block-requires : goal.fill_block-requires
fill_block-requires c =
    let p = float-done _ _ _ _ _ _ _ c.in-Ok.ensures in
    let l = sides c.args.tx p.0.size in let q_ = subst (λ (q : Size). Asked q.w q.h (length c.args.out.now) c.args.bd c.args.pred.now c.residuals.new.work) (sym c.size_of-s.ensures) (
      (l, p.0.to, p.1.fits.space, p.1.fits.known, p.1.all.samples),
      (N.le_trans (area (h_of c.args.tx) (w_of c.args.tx) refl refl) (omega (arith, c.residuals.auto.work)), residual-bounded c.args.form.rowwise c.args.tx c.args.txtp c.args.bd c.args.coeff.now c.residuals.new.work c.residuals.ensures p.0.to),
    ) in record {
      sides = q_.0;
      w_in_bounds = q_.1;
    }

pub returns-in-Ok : goal.returns-in-Ok
unfolding float_of
returns-in-Ok c =
    let p = float-done c.args.form.strict (length c.args.out.now) c.args.coeff.now c.args.txtp c.args.tx c.args.bd c.args.pred.now c.in-Ok.ensures in
    let w = w_of c.args.tx in
    let h = h_of c.args.tx in
    let made = filled c.args.form.rowwise c.args.out.now c.args.coeff.now c.args.txtp c.args.tx c.args.bd c.args.pred.now in
    let whole =
    ap (λ (t : List Float). (done, t))
    (c.fill_block.ensures ∙ ap (λ (q : Size). filled_by q.w q.h c.args.bd (repeated q.w q.h (grid_of (cut q.w) c.residuals.new.work)) c.args.out.now c.args.pred.now) c.size_of-s.ensures
    ∙ block_same w w h (length c.args.out.now) (λ i d. pixel_f (pixel_of c.args.bd (get_or c.args.pred.now i (pos 0)) d)) (λ i. get_or c.args.out.now i (pixel_f (pos 0)))
    (repeated w h (grid_of (cut w) c.residuals.new.work)) (residual_at c.args.form.rowwise c.args.tx c.args.txtp c.args.bd c.args.coeff.now)
    (residual-served c.args.form.rowwise c.args.tx c.args.txtp c.args.bd c.args.coeff.now c.residuals.new.work c.residuals.ensures (sides c.args.tx p.0.size)))
    ∙ ends-ok c.args.out.now made c.in-Ok.ensures in
    rw c.finished.ensures (record {
      out_after = whole;
      exact = exact-call (reading_of c.args.form) c.args.out.now c.args.coeff.now c.args.txtp c.args.tx c.args.bd c.args.pred.now done c.fill_block.new.out whole;
    })
