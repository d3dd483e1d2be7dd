pub mod Listing
pub mod Nth
