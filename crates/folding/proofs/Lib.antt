-- OnePass, RuleFair: the rule and the one pass agree. Replayed, Fair: the folded list replayed. Owners, Turns, Writes, FoldCall: what the code does, step by
-- step. Folds: a fold keeps a history good. Again: folding again changes nothing. Led: every history that calls, folds among them, have led to.
pub mod OnePass
pub mod Replayed
pub mod Fair
pub mod Owners
pub mod Turns
pub mod Writes
pub mod FoldCall
pub mod RuleFair
pub mod Folds
pub mod Again
pub mod Led
