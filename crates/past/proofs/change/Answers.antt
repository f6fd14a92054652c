-- `change` meets its contract: the levels lead to the wanted samples, and are those of the step. Assumes nothing.
use mathlib.Core.Path.{◌∙◌}
use Rattle.whole.specs.Sums.{item}
use Rattle.history.specs.Calls.{lent}
use Rattle.screen.proofs.Planes.{natural-read}
use Rattle.past.specs.Commands.{area_of}
use Rattle.past.proofs.Pasts.{change-is}
use Rattle.past.proofs.change.Goals as goal

pub returns : goal.returns
returns c =
    let q = c.args in
    change-is (area_of q.s q.plane.now) q.s.depth q.list.now (lent q.plane.now q.steps.now q.levels.now q.index.now)
    (c.natural-row.ensures.value ∙ natural-read (item q.list.now 0) (record { sfits = c.natural-arg-1.given }))
    (c.natural-column.ensures.value ∙ natural-read (item q.list.now 1) (record { sfits = c.natural-arg-2-1.given }))
    c.levels_to.ensures c.history_step.ensures
