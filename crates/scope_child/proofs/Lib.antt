-- What the proofs of several functions use.
pub mod Hoist
pub mod Ends
