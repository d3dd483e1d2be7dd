-- What the proofs of several functions use; all are also for callers.
pub mod Nodes
pub mod Flags
pub mod Yes
pub mod Stored
