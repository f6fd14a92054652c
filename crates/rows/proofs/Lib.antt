-- Laws of the products by rows. Each file opens with the list of its laws.
--     Front      the first places of an array, after a call filled them
--     Shorts     numbers that 16 bits hold
pub mod Front
pub mod Shorts
pub mod Dots
