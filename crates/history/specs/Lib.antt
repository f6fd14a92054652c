-- Calls: step, undo, withdrawal and rebuild, the answers and every slice as it is left. Bounds: what the internal functions may rely on.
pub mod Calls
pub mod Bounds
