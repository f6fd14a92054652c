-- `wht::blocks::forward_row` meets its contract: `forward4` on the four numbers, read back. Assumes nothing.
use Rattle.whole.proofs.Num.{back}
use Rattle.wht.proofs.blocks.forward_row.Goals as goal

pub returns : goal.returns
returns c =
    let t = c.struct_told-4-1.given in
    let q = c.args.q in
    rw (back {z = q.0} t.0.1, back {z = q.1} t.1.0.1, back {z = q.2} t.1.1.0.1, back {z = q.3} t.1.1.1.0.1) at c.forward4.ensures
