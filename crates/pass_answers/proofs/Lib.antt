pub mod Demands
pub mod Rows
pub mod Long
pub mod Assigns
pub mod Sizes
pub mod Today
pub mod Under
