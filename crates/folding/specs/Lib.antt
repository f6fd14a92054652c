-- Fold: the rule of document 02, section 10, one pair at a time, and the call. Pass: the same in one pass. Owners: who went into whom. Led: histories with folds in them.
pub mod Fold
pub mod Pass
pub mod Owners
pub mod Led
