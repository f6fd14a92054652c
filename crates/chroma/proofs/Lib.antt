-- Rounding (the shift that rounds), Verdict (what an answer of Done tells), Outcomes (what the call's promise gives), Drift (a pair turned and turned back).
pub mod Rounding
pub mod Verdict
pub mod Outcomes
pub mod Drift
