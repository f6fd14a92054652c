-- What the contracts of the case stream's parts cite.
--     Bytes     numbers as bytes
--     Floats    floats by their bits
pub mod Bytes
pub mod Floats
