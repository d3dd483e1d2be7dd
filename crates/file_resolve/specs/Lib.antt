pub mod Check
pub mod Load
pub mod Idents
pub mod Resolve
