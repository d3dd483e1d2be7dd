pub mod Zeros
pub mod Again
pub mod Ends
