-- What the proofs of several functions use.
pub mod Tables
pub mod Low
pub mod Nodes
pub mod Loops
