-- What the contracts of the kernels cite beside the dense meaning in `tables`.
--     Inputs       what every kernel takes
--     Dct          the DCT of each length, and its tables
pub mod Inputs
pub mod Dct
