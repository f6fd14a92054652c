-- Range: a history in range, and the refusals by the arguments alone. Steps: remaining steps as lossless ones. Bounds: what the functions may rely on.
pub mod Range
pub mod Bounds
pub mod Steps
