-- The two definitions agree, for every input: Agree for the inverse DCT, AgreeWht for the inverse 4x4 WHT.
-- Logged has what they share; WhtRange, that no value of the WHT leaves the range of the inputs.
pub mod Logged
pub mod Agree
pub mod WhtRange
pub mod AgreeWht
