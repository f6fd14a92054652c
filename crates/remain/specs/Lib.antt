-- The remaining steps of a history in lent memory, from document 02, section 9.
--     Remaining    the list of remaining steps, as the lent slices hold it
--     Touch        which steps share a sample, and the last-touch index
--     Without      a step taken out of the list
--     Bounds       what the functions may rely on
pub mod Remaining
pub mod Touch
pub mod Without
pub mod Bounds
