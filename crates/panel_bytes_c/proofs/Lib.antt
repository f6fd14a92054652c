-- Exports: each export is the function that it wraps.
pub mod Exports
