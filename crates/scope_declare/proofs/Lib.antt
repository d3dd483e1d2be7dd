-- What the proofs of several functions use.
pub mod Init
pub mod Top
pub mod Fields
pub mod Again
pub mod Declares
