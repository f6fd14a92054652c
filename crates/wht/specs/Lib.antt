-- The 4x4 Walsh-Hadamard transform: Wht (the transform and its inverse), Calls (the public calls);
-- Bounds and Stores serve the internal functions.
pub mod Wht
pub mod Bounds
pub mod Stores
pub mod Calls
