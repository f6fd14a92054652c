-- `history::history_step` meets its contract: the judge, then the work. Assumes nothing.
use mathlib.Core.Path.{sym, ap, ◌∙◌}
use lib.ListN.{length}
use Rattle.answers.specs.declared.Answer.{Answer}
use Rattle.answers.proofs.Verdicts.{refuses}
use Rattle.keeping.specs.Range.{area, front_of}
use Rattle.history.specs.Calls.{lent, step_samples, stepped, step_of}
use Rattle.history.proofs.Parts.{first-refused, first-passed}
use Rattle.history.proofs.history_step.Goals as goal

pub returns-in-Err : goal.returns-in-Err
unfolding step_of
returns-in-Err c =
    let a = area (length c.args.plane.now) c.args.stride c.args.width c.args.rows in
    let m = lent c.args.plane.now c.args.steps.now c.args.levels.now c.args.index.now in
    rw c.from.ensures (first-refused (front_of a c.args.depth c.args.row c.args.column c.args.level.now m.steps m.levels (length m.index)) (step_samples a c.args.depth c.args.row c.args.column c.args.level.now m) m (stepped a c.args.depth c.args.row c.args.column c.args.level.now m) c.in-Err.ensures (refuses c.in-Err.reason))

pub step-requires : goal.step-requires
step-requires c =
    ap (λ (x : Answer). x.number) (sym c.in-Ok.ensures)

pub returns-in-Ok : goal.returns-in-Ok
unfolding step_of
returns-in-Ok c =
    let a = area (length c.args.plane.now) c.args.stride c.args.width c.args.rows in
    let m = lent c.args.plane.now c.args.steps.now c.args.levels.now c.args.index.now in
    rw c.from-in-Ok.ensures (c.step.ensures ∙ sym (first-passed (front_of a c.args.depth c.args.row c.args.column c.args.level.now m.steps m.levels (length m.index)) (step_samples a c.args.depth c.args.row c.args.column c.args.level.now m) m (stepped a c.args.depth c.args.row c.args.column c.args.level.now m) (ap (λ (x : Answer). x.number) (sym c.in-Ok.ensures))))
