pub mod Inits
pub mod Kinds
pub mod Declare
