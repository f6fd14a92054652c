-- Commands: what a command makes of the screen's memory, and what always holds of it.
pub mod Commands
