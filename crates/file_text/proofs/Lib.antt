pub mod Trees
pub mod Ends
