-- Exports: each export is the function that it wraps.
-- ByteExports: each export is the function that it wraps.
pub mod Exports
pub mod ByteExports
