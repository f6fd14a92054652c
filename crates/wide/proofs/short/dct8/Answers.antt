-- `wide::short::dct8` meets its contract: the even half, then the odd inputs. Assumes nothing.
use mathlib.Core.Path.{refl}
use Rattle.tables.specs.Dct.{dct4, dct8}
use Rattle.tables.specs.Half.{half8}
use Rattle.wide.proofs.Growth.{grown, grown-room}
use Rattle.wide.proofs.short.dct8.Goals as goal

pub returns : goal.returns
returns c =
    let e = c.dct4.ensures in
    let s = c.args in
    (grown 4 s.d dct4 half8 dct8 s.w.now _ _ e.0 c.grow.ensures (λ xs. refl), grown-room 1 c.grow.ensures e.1)
