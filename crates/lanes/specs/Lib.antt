pub mod View
pub mod Halves
