-- `passes::load::load_row` meets its contract: after x turns the first x places hold their coefficients. Assumes nothing.
use mathlib.Core.Path.{ap, ◌∙◌}
use mir.Syntax.{w32}
use mir.Val.{to_z, of_z}
use mir.ValLaws.{to_z-of_z}
use Rattle.whole.specs.Numbers.{clamp}
use Rattle.whole.proofs.Num.{back}
use Rattle.whole.proofs.Fill.{fill_more, fill_done}
use Rattle.passes.specs.Passes.{scaling}
use Rattle.passes.proofs.load.load_row.Goals as goal

pub loop-x-preserved : goal.loop-x-preserved
loop-x-preserved c =
    fill_more c.loop-x.invariant c.loop-x-test.true
    (back c.clamped.type_inv ∙ c.clamped.ensures
    ∙ ap (clamp (to_z w32 (of_z w32 c.args.lo)) (to_z w32 (of_z w32 c.args.hi))) (back c.scaled-v.type_inv ∙ c.scaled-v.ensures ∙ ap (scaling c.args.scale) (to_z-of_z w32 _ (record { sfits = c.scaled-arg-1.given }))))

pub returns : goal.returns
returns c =
    rw (← to_z-of_z w32 c.args.lo c.ranges.lo, ← to_z-of_z w32 c.args.hi c.ranges.hi) (fill_done c.loop-x.invariant c.loop-x-test.false)
