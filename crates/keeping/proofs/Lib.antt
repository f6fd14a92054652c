-- Facts: what the tests tell where they pass. Verdicts: the refusals by their tests, one after the other.
pub mod Facts
pub mod Verdicts
