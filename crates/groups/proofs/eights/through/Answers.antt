-- `groups::eights::through` meets its contract: 32 records of eight take less than 2^63 bytes. Assumes nothing.
use lib.Dec.{lit<}
use Rattle.groups.proofs.eights.through.Goals as goal

pub through-requires : goal.through-requires
through-requires c = record { space = lit< tt; code_value = c.requires.code_value; by_index = c.requires.by_index }
