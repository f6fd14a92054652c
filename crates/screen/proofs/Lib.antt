-- Laws of a screen.
--     Tails      parts at the ends of a list
--     Planes     samples, and blocks that stand on a screen
--     Levels     the levels of a change
--     Arriving   a block that is ready for a change
--     Pads       no command reaches the pad
pub mod Tails
pub mod Planes
pub mod Levels
pub mod Arriving
pub mod Pads
