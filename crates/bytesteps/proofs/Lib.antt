-- Sums: a byte and its gain, as the machine adds them. Widened: the calls and the wide calls on a plane of the same values.
-- Undone, Arriving: what is claimed of steps, over bytes, each by the wide theorem. Outcomes: a promise allows one outcome.
pub mod Sums
pub mod Widened
pub mod Undone
pub mod Arriving
pub mod Outcomes
