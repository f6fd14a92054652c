-- The add call on planes of bytes.
pub mod Bytes
