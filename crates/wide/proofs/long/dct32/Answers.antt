-- `wide::long::dct32` meets its contract: the even half, then the odd inputs. Assumes nothing.
use Rattle.std.proofs.Common.{rules, refl, lit≤}
use Rattle.tables.specs.Dct.{dct16, dct32}
use Rattle.tables.specs.Half.{half32}
use Rattle.wide.proofs.Growth.{grown, grown-room, doubled-then, next-room}
use Rattle.wide.proofs.long.dct32.Goals as goal

pub grow-requires-6 : goal.grow-requires-6
grow-requires-6 c = (lit≤ tt, lit≤ tt, search rules, lit≤ tt, search rules, next-room 3 (doubled-then (doubled-then (doubled-then (doubled-then c.grow.ensures (lit≤ tt) (lit≤ tt) c.grow-2.ensures) (lit≤ tt) (lit≤ tt) c.grow-3.ensures) (lit≤ tt) (lit≤ tt) c.grow-4.ensures) (lit≤ tt) (lit≤ tt) c.grow-5.ensures) c.dct16.ensures.1 (lit≤ tt))

pub grow-requires-7 : goal.grow-requires-7
grow-requires-7 c = (lit≤ tt, lit≤ tt, search rules, lit≤ tt, search rules, next-room 3 (doubled-then (doubled-then (doubled-then (doubled-then (doubled-then c.grow.ensures (lit≤ tt) (lit≤ tt) c.grow-2.ensures) (lit≤ tt) (lit≤ tt) c.grow-3.ensures) (lit≤ tt) (lit≤ tt) c.grow-4.ensures) (lit≤ tt) (lit≤ tt) c.grow-5.ensures) (lit≤ tt) (lit≤ tt) c.grow-6.ensures) c.dct16.ensures.1 (lit≤ tt))

pub grow-requires-8 : goal.grow-requires-8
grow-requires-8 c = (lit≤ tt, lit≤ tt, search rules, lit≤ tt, search rules, next-room 3 (doubled-then (doubled-then (doubled-then (doubled-then (doubled-then (doubled-then c.grow.ensures (lit≤ tt) (lit≤ tt) c.grow-2.ensures) (lit≤ tt) (lit≤ tt) c.grow-3.ensures) (lit≤ tt) (lit≤ tt) c.grow-4.ensures) (lit≤ tt) (lit≤ tt) c.grow-5.ensures) (lit≤ tt) (lit≤ tt) c.grow-6.ensures) (lit≤ tt) (lit≤ tt) c.grow-7.ensures) c.dct16.ensures.1 (lit≤ tt))

pub returns : goal.returns
returns c =
    let e = c.dct16.ensures in
    let g = (doubled-then (doubled-then (doubled-then (doubled-then (doubled-then (doubled-then (doubled-then c.grow.ensures (lit≤ tt) (lit≤ tt) c.grow-2.ensures) (lit≤ tt) (lit≤ tt) c.grow-3.ensures) (lit≤ tt) (lit≤ tt) c.grow-4.ensures) (lit≤ tt) (lit≤ tt) c.grow-5.ensures) (lit≤ tt) (lit≤ tt) c.grow-6.ensures) (lit≤ tt) (lit≤ tt) c.grow-7.ensures) (lit≤ tt) (lit≤ tt) c.grow-8.ensures) in
    let s = c.args in
    (grown 16 s.d dct16 half32 dct32 s.w.now _ _ e.0 g (λ xs. refl), grown-room 3 g e.1)
