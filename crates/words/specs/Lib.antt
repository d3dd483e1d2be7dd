pub mod Tab
pub mod Layout
pub mod Moved
pub mod Flags
pub mod Place
pub mod Node
