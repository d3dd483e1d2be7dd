pub mod Found
pub mod Render
