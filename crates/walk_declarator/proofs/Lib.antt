-- What the proofs of several functions use.
pub mod Acts
pub mod Parts
pub mod Ends
