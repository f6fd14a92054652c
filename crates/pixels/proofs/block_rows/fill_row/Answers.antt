-- `pixels::block_rows::fill_row` meets its contract: after x turns the first x places hold their pixels. Assumes nothing.
use mathlib.Core.Path.{◌≡◌, ap, ◌∙◌}
use Prim.Native.Nat.{◌/◌, ◌^◌}
use native.Mathlib.Omega.{arith}
use lib.IntN.{pos, ◌+ℤ◌}
use lib.ListN.{get_or}
use mir.Syntax.{w32}
use mir.Val.{to_z, of_z}
use mir.ValLaws.{to_z-of_z}
use Rattle.whole.specs.Numbers.{clamp}
use Rattle.whole.proofs.Num.{back}
use Rattle.whole.proofs.Fill.{fill_more, fill_done}
use Rattle.pixels.specs.Pixels.{pixel_f}
use Rattle.pixels.proofs.Floats.{pixel-clamped}
use Rattle.pixels.proofs.block_rows.fill_row.Goals as goal
use Rattle.pixels.proofs.block_rows.fill_row.Goals.{After-pixel-z}

-- the pixel, by what stands in the lists
pixel-is : (c : After-pixel-z) → to_z w32 (of_z w32 c.pixel-z.result) ≡ clamp (pos 0) (to_z w32 (of_z w32 c.args.hi)) (get_or c.args.pred.now c.loop-x.x (pos 0) +ℤ get_or c.args.e.now (c.loop-x.x / 2 ^ c.args.half) (pos 0))
pixel-is c =
    back c.pixel-z.type_inv ∙ (rw (to_z-of_z w32 (get_or c.args.pred.now c.loop-x.x (pos 0)) (record { sfits = c.pixel-arg-1.given }), to_z-of_z w32 (get_or c.args.e.now (c.loop-x.x / 2 ^ c.args.half) (pos 0)) (record { sfits = c.pixel-arg-in-loop-x-1.given })) at c.pixel-z.ensures)

pub float-requires : goal.float-requires
float-requires c = rw (pixel-is c) (pixel-clamped _ _ (rw (to_z-of_z w32 c.args.hi c.ranges.hi) c.requires.5))

pub loop-x-preserved : goal.loop-x-preserved
loop-x-preserved c =
    fill_more c.loop-x.invariant c.loop-x-test.true (c.float.ensures ∙ ap pixel_f (pixel-is c.before))

pub returns : goal.returns
returns c =
    rw (← to_z-of_z w32 c.args.hi c.ranges.hi) (fill_done c.loop-x.invariant (omega (arith, c.loop-x.invariant.long)))
