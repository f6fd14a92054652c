-- Laws of the narrow passes.
--     Clamps     the clamp to 16 bits; the clamp of a residual can't be seen
--     Paints     blocks of a list that a loop writes row by row
pub mod Clamps
pub mod Paints
