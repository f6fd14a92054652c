-- Planes of bytes in the fast form.
pub mod Held
