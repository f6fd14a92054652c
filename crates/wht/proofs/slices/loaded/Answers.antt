-- `wht::slices::loaded` meets its contract: row by row. Assumes nothing.
use Rattle.wht.proofs.slices.loaded.Goals as goal

pub returns : goal.returns
returns c =
    let c1 = c.before in
    let c2 = c1.before in
    let c3 = c2.before in
    λ i. (c3.load4-a.ensures i, c2.load4-b.ensures i, c1.load4-c.ensures i, c.load4-d.ensures i)
