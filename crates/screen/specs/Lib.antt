-- What the contracts of a screen cite.
--     Planes     the samples of a screen: a block's place, a block added, two planes compared
--     Steps      the levels of a change into a wanted block
--     Screens    a screen, and what always holds of it
--     Commands   what a command asks for
pub mod Planes
pub mod Steps
pub mod Screens
pub mod Commands
