-- `lanes::dot::g_dot` meets its contract: after i turns each lane has the sum of the row's first i products. Assumes nothing.
use mathlib.Core.Path.{ap, ◌∙◌}
use Prim.Native.Nat.{◌+◌}
use native.Mathlib.Omega.{arith}
use borrow.Author.Rules.{rules}
use lib.ListN.{take}
use lib.Seq.{take_all}
use mir.Syntax.{w32}
use mir.ValLaws.{to_z-of_z}
use mir.Val.{to_z, of_z}
use Rattle.whole.specs.Sums.{dot_z}
use Rattle.whole.specs.Lanes.{col}
use Rattle.whole.proofs.LaneTurns.{MulAdd, row-turn}
use Rattle.lanes.proofs.Columns.{col-read}
use Rattle.lanes.proofs.dot.g_dot.Given.{Over}
use Rattle.lanes.proofs.dot.g_dot.Goals as goal
use Rattle.lanes.proofs.dot.g_dot.Goals.{After-from}

turn : (g : Over) (c : After-from g)
    → MulAdd g.L.Lanes.lane c.index-v-i.result (to_z w32 (of_z w32 c.from.result)) c.loop-i.acc (λ k. dot_z (take (c.loop-i.i + 1) c.args.mat.now) (col g.L.Lanes.lane k c.args.v.now))
turn g c =
    let at = g.L.Lanes.lane in
    row-turn at (λ k. col at k c.args.v.now) c.args.mat.now c.requires.1 c.loop-i.i c.index-v-i.result (col-read at c.args.v.now (omega (arith, c.requires.0, c.loop-i-test.true)) c.index-v-i.is)
    (to_z-of_z w32 _ (record { sfits = c.from.type_inv }) ∙ c.from.ensures ∙ search rules) c.loop-i.acc c.loop-i.invariant

pub mul_add_n-acc-requires : goal.mul_add_n-acc-requires
mul_add_n-acc-requires g c = record { by_index = (turn g c).mul; by_index_2 = (turn g c).add }

pub loop-i-preserved : goal.loop-i-preserved
loop-i-preserved g c = (turn g c.before).is c.mul_add_n-acc.result c.mul_add_n-acc.ensures

pub returns : goal.returns
returns g c k =
    c.loop-i.invariant k ∙ ap (λ l. dot_z l (col g.L.Lanes.lane k c.args.v.now)) (take_all c.loop-i.i c.args.mat.now c.loop-i-test.false)
