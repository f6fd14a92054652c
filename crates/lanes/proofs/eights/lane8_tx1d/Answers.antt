-- `lanes::eights::lane8_tx1d` meets its contract: 32 records of eight take less than 2^63 bytes. Assumes nothing.
use lib.Dec.{lit<}
use Rattle.lanes.proofs.eights.lane8_tx1d.Goals as goal

pub lane_tx1d-requires : goal.lane_tx1d-requires
lane_tx1d-requires c = (lit< tt, (lit< tt, (c.requires.code_value, c.requires.live)))
