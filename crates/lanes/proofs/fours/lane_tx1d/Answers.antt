-- `lanes::fours::lane_tx1d` meets its contract: 32 records of four take less than 2^63 bytes. Assumes nothing.
use lib.Dec.{lit<}
use Rattle.lanes.proofs.fours.lane_tx1d.Goals as goal

pub lane_tx1d-requires : goal.lane_tx1d-requires
lane_tx1d-requires c = (lit< tt, (lit< tt, (c.requires.code_value, c.requires.live)))
