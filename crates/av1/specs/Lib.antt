-- The inverse DCT of document 02, section 12.
--     Tables, Steps, Calls    its tables, the run of a table of steps, the whole call
--     Went, Ops               the answer of what goes on to a place; what the last byte of a step means
--     Four                    the verdict on the shortest one, which has no table
--     Room                    what keeps every sum within its width
pub mod Tables
pub mod Steps
pub mod Went
pub mod Ops
pub mod Room
pub mod Calls
pub mod Four
