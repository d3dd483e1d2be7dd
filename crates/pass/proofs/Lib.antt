pub mod Entries
pub mod Listings
pub mod Own
