-- The calls of the fast form.
pub mod Quick
