pub mod Together
pub mod Alone
