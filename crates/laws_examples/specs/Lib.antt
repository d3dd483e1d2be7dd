pub mod Stress
pub mod Refusals
pub mod Traps
