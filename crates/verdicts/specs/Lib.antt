-- What the pixel calls answer.
pub mod Verdicts
