-- `lanes::LaneLanes::mul_n` meets its contract: each number by itself. Assumes nothing.
use mathlib.Core.Path.{ap, ◌∙◌}
use borrow.Author.Rules.{rules}
use lib.IntN.{ℤ, pos, ◌*ℤ◌, zero-*ℤ}
use lib.ListN.{length-replicate}
use mir.Syntax.{w32}
use mir.Val.{to_z, of_z}
use mir.ValLaws.{to_z-of_z}
use Rattle.whole.proofs.Fill.{filled_none}
use Rattle.lanes.specs.View.{lane}
use Rattle.lanes.proofs.Numbered.{past-last, number-more, numbered-all}
use Rattle.lanes.proofs.LaneLanes.mul_n.Goals as goal

pub loop-k-init : goal.loop-k-init
loop-k-init g c = record { long = length-replicate _ _; holds = filled_none (pos 0) _ _ }

pub loop-k-preserved : goal.loop-k-preserved
loop-k-preserved g c = number-more c.loop-k.invariant c.loop-k-test.true (search (rules, c.requires c.loop-k.k))

pub returns : goal.returns
returns g c k =
    let f : ℤ = to_z w32 (of_z w32 c.args.n) in
    numbered-all c.loop-k.invariant c.loop-k-test.false (λ i h. ap (λ z. z *ℤ f) (past-last c.args.self.0 c.well_formed.0.1.1.1.0.1.0.1 h) ∙ zero-*ℤ f) k
    ∙ ap (λ z. lane c.args.self k *ℤ z) (to_z-of_z w32 c.args.n c.ranges.n)
