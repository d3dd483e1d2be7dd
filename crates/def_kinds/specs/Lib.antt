pub mod Stands
pub mod Pairs
pub mod Lent
pub mod Examples
