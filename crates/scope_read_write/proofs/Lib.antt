pub mod Again
pub mod Limits
pub mod Fields
