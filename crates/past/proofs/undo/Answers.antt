-- `undo` meets its contract: the undo of the newest step is accepted. Assumes nothing.
use mathlib.Core.Path.{sym, ap, ◌∙◌}
use Rattle.answers.specs.declared.Answer.{Answer}
use Rattle.history.specs.Calls.{lent}
use Rattle.past.specs.Commands.{area_of}
use Rattle.past.proofs.Pasts.{undo-done}
use Rattle.past.proofs.undo.Goals as goal

pub prove-unreachable-requires : goal.prove-unreachable-requires
prove-unreachable-requires c =
    let q = c.args in
    let e = undo-done (area_of q.s q.plane.now) (lent q.plane.now q.steps.now q.levels.now q.index.now) c.requires.0 c.requires.1 c.history_undo-r.ensures in
    c.if-prove.true (ap (λ (a : Answer). a.number) e)

pub returns : goal.returns
returns c =
    let q = c.args in
    let u = c.history_undo-r.new in
    let e = undo-done (area_of q.s q.plane.now) (lent q.plane.now q.steps.now q.levels.now q.index.now) c.requires.0 c.requires.1 c.history_undo-r.ensures in
    ap (λ (x : Answer). (x, lent u.plane u.steps u.levels u.index)) (sym e) ∙ c.history_undo-r.ensures
