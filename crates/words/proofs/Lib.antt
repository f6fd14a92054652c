-- Laws of words and decimal numbers. Each file opens with the list of its laws.
pub mod Alike
pub mod Decimals
pub mod Runs
pub mod Splits
pub mod Takes
pub mod Written
