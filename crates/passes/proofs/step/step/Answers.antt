-- `passes::step::step` meets its contract: the first sw * sh numbers are lent as a part and settled. Assumes nothing.
use mathlib.Core.Path.{ap, ◌∙◌}
use Prim.Native.Nat.{◌^◌}
use mir.Syntax.{w32}
use mir.Val.{to_z, of_z}
use Rattle.whole.specs.Numbers.{clamp, round_shift, lowest}
use Rattle.whole.specs.Grid.{grid_of}
use Rattle.whole.proofs.Num.{back}
use Rattle.whole.proofs.Grid.{grid-within, grid-mapped}
use Rattle.passes.proofs.step.step.Goals as goal

pub settle-requires : goal.settle-requires
settle-requires c = (grid-within (2 ^ 30) c.args.sw c.args.sh c.args.work.now c.requires.3, c.requires.1)

pub returns : goal.returns
returns c r x a b =
    let z = grid_of c.args.sw c.args.work.now r x in
    grid-mapped c.args.sw c.args.sh (λ z. clamp (to_z w32 (of_z w32 c.low_end-lo.result)) (to_z w32 (of_z w32 c.high_end-hi.result)) (round_shift c.args.shift z)) c.args.work.now c.settle.new.c c.requires.0 c.settle.ensures r x a b
    ∙ ap (λ l. clamp l (to_z w32 (of_z w32 c.high_end-hi.result)) (round_shift c.args.shift z)) (back c.low_end-lo.type_inv ∙ c.low_end-lo.ensures)
    ∙ ap (λ l. clamp (lowest c.args.bits) l (round_shift c.args.shift z)) (back c.high_end-hi.type_inv ∙ c.high_end-hi.ensures)
