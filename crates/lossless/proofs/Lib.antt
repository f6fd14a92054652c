-- What holds of steps. Gains, Blocks: samples that gain numbers, at any indices. Adding: the same by the machine. Arguments, Calls: a call by its tests.
-- Undo, History, Wanted, Pad, Middle, Withdrawals: what is claimed of steps. Outcomes: a promise allows one outcome.
pub mod Gains
pub mod Blocks
pub mod Adding
pub mod Arguments
pub mod Calls
pub mod Undo
pub mod History
pub mod Wanted
pub mod Pad
pub mod Middle
pub mod Withdrawals
pub mod Outcomes
