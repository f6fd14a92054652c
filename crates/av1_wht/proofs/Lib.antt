-- Accepted: what a verdict of Done tells. Outcomes: a promise allows one outcome, and a refused call leaves its list.
pub mod Accepted
pub mod Outcomes
