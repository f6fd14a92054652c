-- Laws of the fast form.
--     Accepted     blocks that go through the narrow passes
pub mod Accepted
