-- What the contracts of the products by rows cite.
--     Rows       tables by rows
--     Short      numbers that 16 bits hold
pub mod Rows
pub mod Short
