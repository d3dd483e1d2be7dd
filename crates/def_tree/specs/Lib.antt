pub mod Base
pub mod Tree
pub mod Combine
