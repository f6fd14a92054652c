-- Laws of the fast form on planes of bytes.
--     Reached     bytes that gain the results of the narrow passes
pub mod Reached
