-- The narrow passes of a block at depth 8 whose kinds are both DCT.
pub mod Groups
pub mod Gains
