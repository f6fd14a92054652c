-- `lanes::lane_tx1d` meets its contract: an array of 32 records has room for every length. Assumes nothing.
use native.Mathlib.Omega.{arith}
use Rattle.tables.proofs.Kernels.{cut_most}
use Rattle.lanes.proofs.lane_tx1d.Goals as goal

pub lane_tx1d_into-requires-clause-room : goal.lane_tx1d_into-requires-clause-room
lane_tx1d_into-requires-clause-room g c = (omega (arith, cut_most c.args.n), omega (arith, cut_most c.args.n))
