pub mod Canon
pub mod Entry
pub mod Differ
pub mod Examples
