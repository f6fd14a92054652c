-- Laws of the narrow passes of a block.
--     Turned     rows that are loaded side by side, and turned into groups
--     Gained     results that a picture gains
--     Blocks     the narrow passes one after the other
pub mod Turned
pub mod Gained
pub mod Blocks
