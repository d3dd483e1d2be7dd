pub mod Rows
pub mod Put
