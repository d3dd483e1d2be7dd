pub mod Words
pub mod Decimals
