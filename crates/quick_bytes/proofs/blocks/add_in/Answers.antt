-- `quick_bytes::blocks::add_in` meets its contract: areas of these sizes, cleared. Assumes nothing.
use Rattle.std.proofs.Common.{arith}
use Rattle.fast.proofs.Blocks.{lent-clear}
use Rattle.quick_bytes.proofs.blocks.add_in.Goals as goal

pub whole_as_slice-run : goal.whole_as_slice-run
whole_as_slice-run g c = omega (arith, c.requires.5.most)

pub whole_as_slice-run-2 : goal.whole_as_slice-run-2
whole_as_slice-run-2 g c = omega (arith, c.requires.5.each)

pub whole_as_slice-run-3 : goal.whole_as_slice-run-3
whole_as_slice-run-3 g c = omega (arith, c.requires.5.each)

pub run-requires : goal.run-requires
run-requires g c = (c.requires.0, c.requires.1, c.requires.2, c.requires.3, c.requires.4, lent-clear c.requires.5)
