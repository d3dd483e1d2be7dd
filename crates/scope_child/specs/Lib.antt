pub mod Hoist
pub mod Kinds
