-- `wide::long::first32` meets its contract: the rows of the first four inputs are the dense product, for the others are zero. Assumes nothing.
use mathlib.Core.Path.{refl}
use Rattle.tables.specs.Dct.{dct32}
use Rattle.wide.proofs.Beginnings.{begun-front, begun-room}
use Rattle.wide.proofs.long.first32.Goals as goal

pub returns : goal.returns
returns c =
    let g = c.begin.ensures in
    (begun-front 28 16 dct32 c.args.w.now refl c.requires.2 g (λ xs. refl), begun-room g)
