-- Pasts: what commands keep of a screen's memory. Arrives: a change leads to the wanted block.
pub mod Pasts
pub mod Arrives
