-- `pixels::block_rows::float` meets its contract: a number of 0 to 4,095 is held exactly. Assumes nothing.
use mir.Syntax.{w32}
use mir.ValLaws.{to_z-of_z}
use Rattle.pixels.specs.Pixels.{pixel_f}
use Rattle.pixels.proofs.block_rows.float.Goals as goal

pub returns : goal.returns
unfolding pixel_f
returns c = rw (to_z-of_z w32 c.args.z c.ranges.z)
