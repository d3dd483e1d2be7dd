-- What the proofs of several functions use.
pub mod Opened
pub mod Parts
pub mod Resolved
pub mod Walking
