-- Outcomes: what is claimed of every call. Worked: P1 to P12 of document 01, one table.
pub mod Outcomes
pub mod Promises
pub mod Slices
pub mod Worked
