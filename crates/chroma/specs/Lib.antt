-- The chroma call's rule, and what a pair drifts that is turned and turned back.
pub mod Chroma
pub mod Drift
