-- Laws of the kernels. Each file opens with the list of its laws.
--     ByRows     tables by rows: what `inv_dst` asks of a table of a known length, and what it leaves
--     Folds      the butterfly in place, of dense products
--     EvenOdd    the DCT of 2n numbers from those of the even and the odd inputs
--     ByCode     which kernel a length and a kind code have
--     Recursion  the recursive DCT of 16 is the flat one
pub mod ByRows
pub mod Folds
pub mod EvenOdd
pub mod ByCode
pub mod Recursion
