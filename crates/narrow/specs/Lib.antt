-- Blocks of a list that are written row by row.
pub mod Painted
