-- From coefficients to the numbers after the columns.
pub mod Passes
pub mod Forms
