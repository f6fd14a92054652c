-- `keeping::front::stands` meets its contract: a step alone would fit, and the last row of the block is visible. Assumes nothing.
use mathlib.Core.Path.{◌≡◌, sym, ◌∙◌}
use mathlib.Core.Bool.{true, ◌&&◌}
use Prim.Native.Nat.{◌+◌, ◌*◌, ◌≤◌}
use native.Mathlib.Omega.{arith}
use borrow.Author.Tests.{leb-true, not-true, not-false}
use lib.Dec.{leb}
use Rattle.whole.proofs.Tests.{both}
use Rattle.lossless.specs.Step.{place, fits}
use Rattle.keeping.specs.Range.{area_of}
use Rattle.keeping.proofs.Facts.{Shape, shape_is}
use Rattle.keeping.proofs.front.stands.Goals as goal
use Rattle.keeping.proofs.front.stands.Lts as lts
use Rattle.keeping.proofs.front.stands.Reads as reads
use Rattle.keeping.proofs.front.stands.Tie as tie

abbrev Start : Type 0
Start = lts.Start tie.the-claims reads.Pre reads.Post

abbrev Else-not-block_fits : Type 0
Else-not-block_fits = lts.Else1 tie.the-claims reads.Pre reads.Post

shape : (s : Start) → Shape (area_of s.args.a)
shape s = shape_is (area_of s.args.a) s.requires

fit : (c : Else-not-block_fits) → fits (place 0 c.args.a.stride c.args.a.width c.args.row c.args.column) c.args.a.size ≡ true
fit c = sym c.block_fits.ensures ∙ not-false _ c.if-not-block_fits.false-raw

high : (c : Else-not-block_fits) → c.args.row ≤ 65535
high c =
    leb-true c.args.row 65535
    (both (leb c.args.row 65535) (leb (c.args.column + 4) c.args.a.width && leb ((c.args.row + 3) * c.args.a.stride + c.args.column + 4) c.args.a.size) (fit c)).0

pub block_fits-requires : goal.block_fits-requires
block_fits-requires c = ((shape c).width4, (shape c).width_most, (shape c).stride_most)

pub returns-then-not-block_fits : goal.returns-then-not-block_fits
returns-then-not-block_fits c = rw (sym c.block_fits.ensures ∙ not-true _ c.if-not-block_fits.true-raw)

pub overflow_add-result : goal.overflow_add-result
overflow_add-result c = omega (arith, high c)

pub returns : goal.returns
returns c = rw (fit c.before)
