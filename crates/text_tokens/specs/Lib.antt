pub mod Tokens
pub mod Bytes
