-- Laws of the two AV1 calls. Each file opens with the list of its laws.
--     Wide       numbers of 32 bits multiplied in 64, and the rounding shift of their sums
--     Between    what the test of a number between the steps tells
--     Chunks     a table of steps, three numbers each
--     Going      a run of steps
--     Tested     the tables, each by one computed test
--     ByFour     the run of the table of length 4, step by step
--     Accepted   what no refusal before the first step tells
--     Outcomes   a promise allows one outcome, and a refused call leaves its list
pub mod Wide
pub mod Between
pub mod Chunks
pub mod Going
pub mod Tested
pub mod ByFour
pub mod Accepted
pub mod Outcomes
