-- `pixels::block_rows::gain_row` meets its contract: after x turns the first x samples have gained, the others are as they were. Assumes nothing.
use mathlib.Core.Path.{◌≡◌, ◌∙◌}
use Prim.Native.Nat.{◌/◌, ◌^◌}
use native.Mathlib.Omega.{arith}
use lib.IntN.{pos}
use lib.ListN.{get_or}
use mir.Syntax.{w32}
use mir.Val.{to_z, of_z}
use mir.ValLaws.{to_z-of_z}
use Rattle.whole.proofs.Num.{back}
use Rattle.whole.proofs.Fill.{place-more, place-now, place-done}
use Rattle.pixels.proofs.block_rows.gain_row.Goals as goal

pub loop-x-preserved : goal.loop-x-preserved
loop-x-preserved g c =
    let x = c.loop-x.x in
    -- the sample is what stood there
    let sample : to_z w32 (of_z w32 (get_or c.loop-x.row x (pos 0))) ≡ get_or c.args.row.now x (pos 0) = to_z-of_z w32 _ (record { sfits = c.pixel-arg-1.given }) ∙ place-now c.loop-x.invariant in
    let residual = to_z-of_z w32 (get_or c.args.e.now (x / 2 ^ g.row.HALF) (pos 0)) (record { sfits = c.pixel-arg-in-loop-x-1.given }) in
    place-more c.loop-x.invariant (omega arith) (back c.pixel.type_inv ∙ (rw (sample, residual) at c.pixel.ensures))

pub returns : goal.returns
returns g c =
    rw (← to_z-of_z w32 c.args.hi c.ranges.hi) (place-done c.loop-x.invariant (omega (arith, c.loop-x.invariant.fill.long)))
