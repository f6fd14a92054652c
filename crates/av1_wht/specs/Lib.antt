-- The inverse 4x4 WHT of AV1.
pub mod Wht
