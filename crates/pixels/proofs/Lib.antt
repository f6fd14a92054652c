pub mod Floats
pub mod Served
pub mod Outcomes
pub mod Strict
pub mod Turned
