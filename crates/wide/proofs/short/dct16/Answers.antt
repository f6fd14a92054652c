-- `wide::short::dct16` meets its contract: the even half, then the odd inputs. Assumes nothing.
use mathlib.Core.Path.{refl}
use Rattle.tables.specs.Dct.{dct8, dct16}
use Rattle.tables.specs.Half.{half16}
use Rattle.wide.proofs.Growth.{grown, grown-room}
use Rattle.wide.proofs.short.dct16.Goals as goal

pub returns : goal.returns
returns c =
    let e = c.dct8.ensures in
    let s = c.args in
    (grown 8 s.d dct8 half16 dct16 s.w.now _ _ e.0 c.grow16.ensures (λ xs. refl), grown-room 2 c.grow16.ensures e.1)
