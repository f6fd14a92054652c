-- `wht::blocks::forward_rows` meets its contract: row by row. Assumes nothing.
use Rattle.wht.proofs.blocks.forward_rows.Goals as goal

pub returns : goal.returns
returns c =
    let c1 = c.before in
    let c2 = c1.before in
    let c3 = c2.before in
    λ i. (c3.forward_row-a.ensures i, c2.forward_row-b.ensures i, c1.forward_row-c.ensures i, c.forward_row-d.ensures i)
