-- `lanes::dct::grow` meets its contract: after m turns the first m and the last m records hold the join, and the rest of the first half is as it was. Assumes nothing.
use mathlib.Core.Path.{◌≡◌, ◌∙◌}
use mathlib.Core.List.{List}
use Prim.Native.Nat.{ℕ}
use native.Mathlib.Omega.{arith}
use lib.IntN.{ℤ, pos}
use lib.ListN.{get_or, take}
use Rattle.whole.specs.Lanes.{col}
use Rattle.whole.proofs.LaneTurns.{turn-add, turn-sub, turn-sum, turn-diff}
use Rattle.tables.proofs.LiveLanes.{fold_done, grow-start, grow-more, grow-now}
use Rattle.lanes.specs.Halves.{odds_of}
use Rattle.lanes.proofs.Columns.{col-read}
use Rattle.lanes.proofs.Odds.{odd_at}
use Rattle.lanes.proofs.dct.grow.Goals as goal

pub loop-m-init : goal.loop-m-init
loop-m-init g c = grow-start g.L.Lanes.lane c.requires.odd_half.1

pub add-requires : goal.add-requires
add-requires g c =
    let at = g.L.Lanes.lane in
    turn-add at c.args.h (λ k. take c.args.h (col at k c.args.e.now)) (λ k. odds_of c.args.h c.args.t.now c.args.start (col at k c.args.c.now)) c.requires.by_index c.loop-m-test.true c.index-e-m.result c.odd-o.result
    (λ k. col-read at c.loop-m.e (omega (arith, c.loop-m.invariant.long, c.requires.odd_half.1, c.loop-m-test.true)) c.index-e-m.is k ∙ grow-now at c.loop-m.invariant c.loop-m-test.true k)
    (λ k. odd_at c.loop-m-test.true c.args.t.now c.args.start (col at k c.args.c.now) (c.odd-o.ensures k))

pub sub-requires : goal.sub-requires
sub-requires g c =
    let at = g.L.Lanes.lane in
    turn-sub at c.args.h (λ k. take c.args.h (col at k c.args.e.now)) (λ k. odds_of c.args.h c.args.t.now c.args.start (col at k c.args.c.now)) c.requires.by_index c.loop-m-test.true c.index-e-m.result c.odd-o.result
    (λ k. col-read at c.loop-m.e (omega (arith, c.loop-m.invariant.long, c.requires.odd_half.1, c.loop-m-test.true)) c.index-e-m.is k ∙ grow-now at c.loop-m.invariant c.loop-m-test.true k)
    (λ k. odd_at c.loop-m-test.true c.args.t.now c.args.start (col at k c.args.c.now) (c.odd-o.ensures k))

pub loop-m-preserved : goal.loop-m-preserved
loop-m-preserved g c =
    let at = g.L.Lanes.lane in
    let evens : ℕ → List ℤ = λ k. take c.args.h (col at k c.args.e.now) in
    let odds : ℕ → List ℤ = λ k. odds_of c.args.h c.args.t.now c.args.start (col at k c.args.c.now) in
    let even_is : (k : ℕ) → at c.index-e-m.result k ≡ get_or (evens k) c.loop-m.m (pos 0) = λ k. col-read at c.loop-m.e (omega (arith, c.loop-m.invariant.long, c.requires.odd_half.1, c.loop-m-test.true)) c.index-e-m.is k ∙ grow-now at c.loop-m.invariant c.loop-m-test.true k in
    let odd_is : (k : ℕ) → at c.odd-o.result k ≡ get_or (odds k) c.loop-m.m (pos 0) = λ k. odd_at c.loop-m-test.true c.args.t.now c.args.start (col at k c.args.c.now) (c.odd-o.ensures k) in
    grow-more at c.loop-m.invariant c.loop-m-test.true
    (turn-sum at c.args.h evens odds c.requires.by_index c.loop-m-test.true c.index-e-m.result c.odd-o.result even_is odd_is c.add.result c.add.ensures)
    (turn-diff at c.args.h evens odds c.requires.by_index c.loop-m-test.true c.index-e-m.result c.odd-o.result even_is odd_is c.sub.result c.sub.ensures)

pub returns : goal.returns
returns g c k = fold_done g.L.Lanes.lane c.loop-m.invariant.fold c.loop-m-test.false k
