-- Orders: a command that can be carried out, and what numbers it takes.
pub mod Orders
pub mod Forms
