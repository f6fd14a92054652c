-- `keeping::front::entries_ok` meets its contract: the loop is a search for the first entry out of range. Assumes nothing.
use mathlib.Core.Path.{◌≡◌, sym, ◌∙◌}
use native.Mathlib.Omega.{arith}
use Prim.Native.Nat.{◌≤◌}
use borrow.Author.Tests.{not-true, not-false, le-leb, lt-leb}
use Rattle.whole.specs.Search.{seek}
use Rattle.whole.proofs.Search.{seek_stop, seek-step, seek-end}
use Rattle.keeping.specs.Range.{area_of, entry_ok}
use Rattle.keeping.proofs.front.entries_ok.Goals as goal

pub returns-then-not-entry_ok : goal.returns-then-not-entry_ok
returns-then-not-entry_ok c =
    let ok = entry_ok (area_of c.args.a) c.args.s.now c.args.l.now in
    let e : seek ok 0 c.args.k ≡ c.loop-i.i = c.loop-i.invariant ∙ seek_stop ok c.loop-i.i c.args.k c.loop-i-test.true (sym c.entry_ok.ensures ∙ not-true _ c.if-not-entry_ok.true-raw) in
    sym (lt-leb c.args.k (seek ok 0 c.args.k) (omega (arith, e, c.loop-i-test.true)))

pub loop-i-preserved : goal.loop-i-preserved
loop-i-preserved c =
    let ok = entry_ok (area_of c.args.a) c.args.s.now c.args.l.now in
    c.loop-i.invariant ∙ seek-step ok c.loop-i.i c.args.k c.loop-i-test.true (sym c.entry_ok.ensures ∙ not-false _ c.if-not-entry_ok.false-raw)

pub returns : goal.returns
returns c =
    let ok = entry_ok (area_of c.args.a) c.args.s.now c.args.l.now in
    let g : c.args.k ≤ c.loop-i.i = omega arith in
    let e : seek ok 0 c.args.k ≡ c.loop-i.i = c.loop-i.invariant ∙ seek-end ok c.loop-i.i c.args.k g in
    sym (le-leb c.args.k (seek ok 0 c.args.k) (omega (arith, e, g)))
