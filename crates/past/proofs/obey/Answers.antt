-- `obey` meets its contract, by the command. Assumes nothing.
use Rattle.history.specs.Calls.{lent}
use Rattle.past.specs.Commands.{area_of}
use Rattle.past.proofs.Pasts.{fold_is}
use Rattle.past.proofs.obey.Goals as goal

pub returns-in-Fold : goal.returns-in-Fold
returns-in-Fold c =
    let q = c.args in
    rw (← c.from.ensures, c.in-Fold.is)
    (fold_is (area_of q.s q.plane.now) (lent q.plane.now q.steps.now q.levels.now q.index.now) c.history_fold.ensures)
