pub mod Turns
pub mod Starts
pub mod Files
