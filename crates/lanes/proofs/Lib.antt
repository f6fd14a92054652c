-- Numbered: N numbers that a loop computes one after the other. Columns: records read from a list. Picks: a kernel of a known length and code is the one that was asked for.
-- Cleared: records of which those from live on were cleared. Headed: the room of the head of a table. Odds: the odd half of a DCT.
pub mod Numbered
pub mod Columns
pub mod Picks
pub mod Cleared
pub mod Headed
pub mod Odds
