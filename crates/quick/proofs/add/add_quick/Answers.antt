-- `quick::add::add_quick` meets its contract: a verdict of Done, then the narrow passes. Assumes nothing.
use mathlib.Core.Path.{◌≡◌, sym, ap, ◌∙◌, subst}
use mathlib.Core.List.{List}
use Prim.Native.Nat.{ℕ, ◌≤◌}
use lib.IntN.{ℤ}
use Rattle.passes.proofs.Steps.{shifts}
use Rattle.answers.specs.declared.Answer.{Answer}
use Rattle.answers.specs.Answers.{done}
use Rattle.answers.proofs.Verdicts.{ends-err, ends-ok}
use Rattle.tables.specs.declared.size.Size.{Size}
use Rattle.verdicts.specs.Verdicts.{add_verdict}
use Rattle.verdicts.proofs.Judging.{add-done}
use Rattle.fast.specs.Gains.{residual8, gained_by, Narrow, Seen}
use Rattle.pixels.specs.Calls.{added, add_of}
use Rattle.quick.proofs.Accepted.{add-seen, quick-narrow, quick-added}
use Rattle.quick.proofs.add.add_quick.Goals as goal

pub returns-in-Err : goal.returns-in-Err
unfolding add_of
returns-in-Err c =
    rw c.from.ensures (ends-err c.args.dst.now (added c.args.form.rowwise c.args.dst.now c.args.stride c.args.coeff.now c.args.txtp c.args.tx c.args.bd) c.in-Err.reason c.in-Err.ensures)

pub size_of-s-requires : goal.size_of-s-requires
size_of-s-requires c = c.requires.size

pub add-requires : goal.add-requires
add-requires c =
    let verdict : ℕ → Answer = λ depth. add_verdict c.args.form.strict c.args.dst.now c.args.stride c.args.coeff.now c.args.txtp c.args.tx depth in
    let p = add-done _ _ _ _ _ _ _ c.in-Ok.ensures in
    let seen = add-seen c.args.form.strict c.args.dst.now c.args.stride c.args.coeff.now c.args.txtp c.args.tx (subst (λ (d : ℕ). (verdict d).number ≡ 0) c.requires.eight (ap (λ (a : Answer). a.number) (sym c.in-Ok.ensures))) in
    subst (λ (q : Size). Narrow q.w q.h q.first c.args.coeff.now × (q.second ≤ 16) × Seen q.w q.h c.args.stride c.args.dst.now) (sym c.size_of-s.ensures) (quick-narrow c.requires p.1.fits.long p.1.all.coefficients, (shifts c.args.tx c.requires.size).1, seen)

pub returns-in-Ok : goal.returns-in-Ok
unfolding add_of
returns-in-Ok c =
    let made = added c.args.form.rowwise c.args.dst.now c.args.stride c.args.coeff.now c.args.txtp c.args.tx c.args.bd in
    rw c.finished.ensures (ap (λ (t : List ℤ). (done, t))
    (c.add.ensures ∙ ap (λ (q : Size). gained_by q.w q.h (residual8 c.args.form.rowwise q.w q.h q.first q.second c.args.coeff.now) c.args.dst.now c.args.stride) c.size_of-s.ensures
    ∙ quick-added c.args.form.rowwise c.args.dst.now c.args.stride c.args.coeff.now c.args.txtp c.args.tx c.args.bd c.requires)
    ∙ ends-ok c.args.dst.now made c.in-Ok.ensures)
