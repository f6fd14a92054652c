-- Accepting: the verdict taken apart. Small: blocks without a side of 64. Widened: the call and the wide call on a plane of the same values. Outcomes: what the promise gives.
-- Orders: the two orders of the coefficients, and refusal 7. Cases: the order of the refusals.
pub mod Accepting
pub mod Small
pub mod Widened
pub mod Outcomes
pub mod Orders
pub mod Cases
