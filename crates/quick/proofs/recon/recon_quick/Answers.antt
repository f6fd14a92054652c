-- `quick::recon::recon_quick` meets its contract: a verdict of Done, then the narrow passes. Assumes nothing.
use mathlib.Core.Path.{◌≡◌, sym, ap, ◌∙◌, subst}
use mathlib.Core.List.{List}
use Prim.Native.Nat.{ℕ, ◌*◌, ◌≤◌}
use lib.Ieee.{Float}
use lib.ListN.{length}
use Rattle.answers.specs.declared.Answer.{Answer}
use Rattle.answers.specs.Answers.{done}
use Rattle.answers.specs.Reasons.{answer_of}
use Rattle.answers.proofs.Verdicts.{ends-err, ends-ok}
use Rattle.tables.specs.declared.size.Size.{Size}
use Rattle.passes.proofs.Steps.{shifts}
use Rattle.verdicts.specs.Verdicts.{float_verdict}
use Rattle.verdicts.proofs.Judging.{float-done}
use Rattle.fast.specs.Gains.{residual8, Narrow, Seen}
use Rattle.pixels.specs.Calls.{filled_by, filled, float_of, reading_of}
use Rattle.pixels.proofs.Floats.{exact-call}
use Rattle.quick.proofs.Accepted.{float-seen, quick-narrow, quick-filled}
use Rattle.quick.proofs.recon.recon_quick.Goals as goal

pub returns-in-Err : goal.returns-in-Err
unfolding float_of
returns-in-Err c =
    let e = ends-err c.args.out.now (filled c.args.form.rowwise c.args.out.now c.args.coeff.now c.args.txtp c.args.tx c.args.bd c.args.pred.now) c.in-Err.reason c.in-Err.ensures in
    rw c.from.ensures (record {
      out_after = e;
      exact = exact-call (reading_of c.args.form) c.args.out.now c.args.coeff.now c.args.txtp c.args.tx c.args.bd c.args.pred.now (answer_of c.in-Err.reason) c.args.out.now e;
    })

pub size_of-s-requires : goal.size_of-s-requires
size_of-s-requires c = c.requires.size

pub fill_block-requires : goal.fill_block-requires
fill_block-requires c =
    let verdict : ℕ → Answer = λ depth. float_verdict c.args.form.strict (length c.args.out.now) c.args.coeff.now c.args.txtp c.args.tx depth c.args.pred.now in
    let p = float-done _ _ _ _ _ _ _ c.in-Ok.ensures in
    let seen = float-seen c.args.form.strict (length c.args.out.now) c.args.coeff.now c.args.txtp c.args.tx c.args.pred.now (subst (λ (d : ℕ). (verdict d).number ≡ 0) c.requires.eight (ap (λ (a : Answer). a.number) (sym c.in-Ok.ensures))) in
    subst (λ (q : Size). Narrow q.w q.h q.first c.args.coeff.now × (q.second ≤ 16) × Seen q.w q.h q.w c.args.pred.now × (q.h * q.w ≤ length c.args.out.now)) (sym c.size_of-s.ensures)
    (quick-narrow c.requires p.1.fits.long p.1.all.coefficients, (shifts c.args.tx c.requires.size).1, seen, p.1.fits.space)

pub returns-in-Ok : goal.returns-in-Ok
unfolding float_of
returns-in-Ok c =
    let made = filled c.args.form.rowwise c.args.out.now c.args.coeff.now c.args.txtp c.args.tx c.args.bd c.args.pred.now in
    let whole =
    ap (λ (t : List Float). (done, t))
    (c.fill_block.ensures ∙ ap (λ (q : Size). filled_by q.w q.h 8 (residual8 c.args.form.rowwise q.w q.h q.first q.second c.args.coeff.now) c.args.out.now c.args.pred.now) c.size_of-s.ensures
    ∙ quick-filled c.args.form.rowwise c.args.out.now c.args.coeff.now c.args.txtp c.args.tx c.args.bd c.args.pred.now c.requires)
    ∙ ends-ok c.args.out.now made c.in-Ok.ensures in
    rw c.finished.ensures (record {
      out_after = whole;
      exact = exact-call (reading_of c.args.form) c.args.out.now c.args.coeff.now c.args.txtp c.args.tx c.args.bd c.args.pred.now done c.fill_block.new.out whole;
    })
