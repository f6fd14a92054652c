-- `chroma::first_bad` meets its contract: the search of all pairs is what is left of it at pair i. Assumes nothing.
use mathlib.Core.Path.{◌≡◌, sym, ◌∙◌}
use Prim.Native.Nat.{◌-◌}
use native.Mathlib.Omega.{arith}
use borrow.Author.Tests.{not-false}
use lib.ListN.{length}
use mir.Syntax.{w32}
use mir.ValLaws.{to_z-of_z}
use Rattle.whole.specs.Search.{seek}
use Rattle.whole.proofs.Search.{seek_stop, seek-step, seek-end}
use Rattle.chroma.specs.Chroma.{pair_ok}
use Rattle.chroma.proofs.first_bad.Goals as goal
use Rattle.chroma.proofs.first_bad.Goals.{After-both_inside}

module _ (c : After-both_inside) where
  tested : c.both_inside.result ≡ pair_ok c.args.lo c.args.hi c.args.u.now c.args.v.now c.loop-i.i
  tested = rw (
    to_z-of_z w32 c.args.lo c.ranges.lo,
    to_z-of_z w32 c.args.hi c.ranges.hi,
    to_z-of_z w32 _ (record { sfits = c.both_inside-arg-1.given }),
    to_z-of_z w32 _ (record { sfits = c.both_inside-arg-in-loop-i-1.given }),
  ) at c.both_inside.ensures

  left : seek (pair_ok c.args.lo c.args.hi c.args.u.now c.args.v.now) 0 (length c.args.u.now) ≡ seek (pair_ok c.args.lo c.args.hi c.args.u.now c.args.v.now) c.loop-i.i (length c.args.u.now - c.loop-i.i)
  left = rw (to_z-of_z w32 c.args.lo c.ranges.lo, to_z-of_z w32 c.args.hi c.ranges.hi) at c.loop-i.invariant

pub returns-then-not-both_inside : goal.returns-then-not-both_inside
returns-then-not-both_inside c = (left c.before ∙ seek_stop _ _ _ c.loop-i-test.true (sym (tested c.before) ∙ c.if-not-both_inside.true), c.loop-i-test.true)

pub loop-i-preserved : goal.loop-i-preserved
loop-i-preserved c =
    rw (to_z-of_z w32 c.args.lo c.ranges.lo, to_z-of_z w32 c.args.hi c.ranges.hi) (left c.before ∙ seek-step _ _ _ c.loop-i-test.true (sym (tested c.before) ∙ not-false _ c.if-not-both_inside.false-raw))

pub returns : goal.returns
returns c =
    (rw (to_z-of_z w32 c.args.lo c.ranges.lo, to_z-of_z w32 c.args.hi c.ranges.hi) at c.loop-i.invariant) ∙ seek-end _ _ _ c.loop-i-test.false ∙ omega (arith, c.loop-i.auto.i-end, c.loop-i-test.false)
