-- What the proofs of several functions use.
pub mod Places
pub mod Declaring
pub mod Looks
pub mod Flagging
pub mod Steps
