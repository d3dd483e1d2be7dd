pub mod Lists
pub mod Walk
