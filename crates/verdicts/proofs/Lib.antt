-- The verdicts of the pixel calls, taken apart.
pub mod Judging
