-- Laws of the DCT that grows by its odd inputs.
--     Folds          sums in the first half, differences from the end
--     Growth         rows that are joined with their odd inputs
--     Beginnings     rows of the first four inputs
--     Sizes          the four lengths of a line
pub mod Folds
pub mod Growth
pub mod Beginnings
pub mod Sizes
