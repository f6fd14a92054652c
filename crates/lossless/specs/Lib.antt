-- The lossless step: Gains (samples that gain numbers), Step (the calls), History, Wanted, Pad and Replay (what is claimed of steps);
-- Bounds serves the internal functions.
pub mod Gains
pub mod Step
pub mod Bounds
pub mod History
pub mod Wanted
pub mod Pad
pub mod Replay
