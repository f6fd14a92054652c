-- The lossless step and its undo on planes of bytes; Wanted: a present block of bytes and a wanted one.
pub mod Steps
pub mod Wanted
