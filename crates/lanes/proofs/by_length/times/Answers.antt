-- `lanes::by_length::times` meets its contract: the loop fills the list with the products. Assumes nothing.
use mathlib.Core.Path.{ap, ◌∙◌}
use Prim.Native.Nat.{◌^◌}
use native.Mathlib.Omega.{arith}
use lib.IntN.{◌*ℤ◌}
use mir.Syntax.{w32}
use mir.Val.{to_z, of_z}
use mir.ValLaws.{to_z-of_z}
use Rattle.whole.specs.Lanes.{col}
use Rattle.whole.proofs.Sums.{within_all}
use Rattle.whole.proofs.Groups.{lanes_start, lanes-more, lanes-done}
use Rattle.tables.specs.Dense.{multiplied}
use Rattle.lanes.proofs.Columns.{col-read}
use Rattle.lanes.proofs.Odds.{scaled_fits}
use Rattle.lanes.proofs.by_length.times.Goals as goal

pub loop-i-init : goal.loop-i-init
loop-i-init g c = lanes_start c.requires.1

pub mul_n-requires : goal.mul_n-requires
mul_n-requires g c k =
    let at = g.L.Lanes.lane in
    scaled_fits (col-read at c.args.c.now (omega (arith, c.requires.0, c.loop-i-test.true)) c.index-c-i.is k) (within_all (2 ^ 19) (col at k c.args.c.now) (c.requires.3 k) c.loop-i.i) (to_z-of_z w32 c.args.f c.ranges.f) c.requires.2

pub loop-i-preserved : goal.loop-i-preserved
loop-i-preserved g c =
    lanes-more c.loop-i.invariant c.loop-i-test.true
    (λ k. c.mul_n.ensures k ∙ ap (λ z. z *ℤ to_z w32 (of_z w32 c.args.f)) (col-read g.L.Lanes.lane c.args.c.now (omega (arith, c.requires.0, c.loop-i-test.true)) c.index-c-i.is k))

pub returns : goal.returns
returns g c k =
    lanes-done c.loop-i.invariant c.loop-i-test.false k ∙ ap (λ z. multiplied c.args.n z (col g.L.Lanes.lane k c.args.c.now)) (to_z-of_z w32 c.args.f c.ranges.f)
