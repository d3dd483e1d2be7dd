-- What the proofs of several functions use.
pub mod Count
pub mod Store
pub mod Listed
pub mod Outwards
pub mod Constants
pub mod Targeted
pub mod ConstWords
