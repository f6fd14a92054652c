-- The two pixel calls: what a block's pixels are, what the calls answer, what they leave.
pub mod Pixels
pub mod Rows
pub mod Calls
