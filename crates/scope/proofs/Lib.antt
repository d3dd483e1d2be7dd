-- What the proofs of several functions use.
pub mod Given
pub mod Moves
pub mod Undefined
pub mod Numbers
