-- `fast::add::add` meets its contract: the areas have room for the block. Assumes nothing.
use Rattle.std.proofs.Common.{arith}
use Rattle.fast.proofs.Blocks.{few-columns}
use Rattle.fast.proofs.add.add.Goals as goal

pub add_in-requires : goal.add_in-requires
add_in-requires c = (c.requires.0, c.requires.1, c.requires.2, few-columns 8 c.requires.0.across c.requires.0.down (omega arith) (omega arith) (omega arith))
