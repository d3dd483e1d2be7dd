-- What the proofs of several functions use.
pub mod Out
pub mod Facts
pub mod Touch
pub mod Placed
pub mod AllConsts
pub mod Down
