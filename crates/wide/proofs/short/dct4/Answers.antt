-- `wide::short::dct4` meets its contract: the rows of four inputs are the dense product. Assumes nothing.
use Rattle.tables.specs.Dct.{dct4}
use Rattle.wide.proofs.Beginnings.{begun, begun-room}
use Rattle.wide.proofs.short.dct4.Goals as goal

pub returns : goal.returns
returns c =
    let s = c.args in
    let g = c.begin.ensures in
    (λ l k. begun 4 s.d 2 dct4 s.w.now s.out.now _ g l k, begun-room g)
