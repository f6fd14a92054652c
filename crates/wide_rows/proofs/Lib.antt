-- Laws of sixteen lines side by side.
--     Shorts     numbers at 32 bits within a bound; sums and differences of two
--     Pairs      the loops that fill two rows
--     Places     rows of sixteen in a list, and what joining a row leaves
--     Taps       numbers d apart
pub mod Shorts
pub mod Pairs
pub mod Places
pub mod Taps
