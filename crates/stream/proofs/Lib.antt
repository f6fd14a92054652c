-- Laws of the case stream's numbers.
--     Bytes         numbers as bytes
--     Kept          floats by their bits
pub mod Bytes
pub mod Kept
