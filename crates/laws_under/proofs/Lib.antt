pub mod Today
pub mod Paired
