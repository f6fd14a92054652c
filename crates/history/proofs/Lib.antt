-- Parts: a verdict in two parts. Taking: what the verdicts of undo and withdrawal tell. Judged: these verdicts by what their judges called. Stepping: the same of the samples of a step. Kept: every call keeps the index equal to what the list says.
pub mod Parts
pub mod Taking
pub mod Kept
pub mod Judged
pub mod Stepping
