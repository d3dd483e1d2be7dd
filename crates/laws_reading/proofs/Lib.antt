pub mod Tests
pub mod Tokens
pub mod Closing
pub mod Nodes
pub mod Walk
pub mod Told
pub mod Once
pub mod Reading
