-- Entries: the list with its levels after a step is put at its end or taken out. Blocks: which blocks share a sample. Withdrawn, Calls: single calls on a
-- history that holds. Keeps, Always, Reaches: every call keeps a history good. Wanted: the step alone, and demand 3. Outcomes: a promise allows one outcome.
pub mod Entries
pub mod Blocks
pub mod Withdrawn
pub mod Calls
pub mod Keeps
pub mod Always
pub mod Reaches
pub mod Wanted
pub mod Outcomes
