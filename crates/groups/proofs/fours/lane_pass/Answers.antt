-- `groups::fours::lane_pass` meets its contract: 32 records of four take less than 2^63 bytes. Assumes nothing.
use lib.Dec.{lit<}
use Rattle.groups.proofs.fours.lane_pass.Goals as goal

pub lane_pass-requires : goal.lane_pass-requires
lane_pass-requires c =
    let q = c.requires.code_value in
    record { space = lit< tt; code_value = (q.0, q.1, lit< tt, q.3, q.4, q.5, q.6); by_index = c.requires.by_index }
