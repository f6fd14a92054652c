-- What is claimed. Each file opens with its statements in plain words.
--     Answers    every call's answer and what it leaves
--     Promises   each public function and each export: asks nothing, and promises the definition that the other files speak of
--     Slices     which slice each refusal names
--     Pixels     the forms of a call agree, dense table products, each pixel
--     Lanes      one, four and eight lanes agree, the idle half reaches no result, a row's numbers come from that row alone
--     Strict     coefficients out of range
--     Orders     coefficients in row order and in column order
--     Chroma     pair by pair, and how far a pair drifts that is turned back
--     Wht        each transform undoes the other, and the difference of two blocks leads from one to the other
--     History    stepping back, and the wanted block
--     Bytes      planes of bytes: as the wide calls, stepping back, and the wanted block
--     Remaining  a history of remaining steps in lent memory
--     Folding    folding old steps together
--     Av1        the older edition: two definitions agree
--     Recursion  the recursive DCT is the flat one
--     Worked     P1 to P12
-- The useless versions of document 01, "How much each call owes", and the edits that are refused for being one:
--     a call that refuses everything                     crates/verdicts/must-fail/refuses_everything.edit
--     one fixed picture for all inputs                   crates/pixels/must-fail/one_fixed_picture.edit
--     a step that touches nothing                        crates/lossless/must-fail/touches_nothing.edit
--     a stepper that works once and then says Done       no call keeps anything from one to the next; History speaks of stepOf at each place
pub mod Answers
pub mod Promises
pub mod Slices
pub mod Pixels
pub mod Lanes
pub mod Strict
pub mod Orders
pub mod Chroma
pub mod Wht
pub mod History
pub mod Bytes
pub mod Remaining
pub mod Folding
pub mod Av1
pub mod Recursion
pub mod Worked
