-- Finds: searches from the end of the list. Sharing: blocks that share a sample. Slides: numbers that move down.
-- Corners: the cells of a block lie in the index. Index: an index mended at a block's cells is the whole index. Covering: one step after the other.
-- Decoding: the list after a step is put at its end, and after one is taken out.
pub mod Finds
pub mod Sharing
pub mod Slides
pub mod Corners
pub mod Index
pub mod Covering
pub mod Decoding
