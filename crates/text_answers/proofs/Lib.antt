pub mod Once
pub mod Calls
