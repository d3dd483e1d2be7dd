pub mod Every
pub mod Escaped
pub mod Decimals
