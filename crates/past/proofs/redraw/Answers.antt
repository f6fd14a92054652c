-- `redraw` meets its contract: a refused block leaves all, a drawn one empties the history. Assumes nothing.
use Rattle.history.specs.Calls.{lent}
use Rattle.past.specs.Commands.{area_of}
use Rattle.past.proofs.Pasts.{redrawn-kept, redrawn-new}
use Rattle.past.proofs.redraw.Goals as goal

pub returns-then-r-ne0 : goal.returns-then-r-ne0
returns-then-r-ne0 c =
    let q = c.args in
    redrawn-kept (area_of q.s q.plane.now) q.s.depth q.list.now (lent q.plane.now q.steps.now q.levels.now q.index.now) c.draw-r.ensures c.if-r-ne0.true

pub returns : goal.returns
returns c =
    let q = c.args in
    let f = c.forget.ensures in
    redrawn-new (area_of q.s q.plane.now) q.s.depth q.list.now (lent q.plane.now q.steps.now q.levels.now q.index.now) c.draw-r.ensures c.if-r-ne0.false f.0 f.1
