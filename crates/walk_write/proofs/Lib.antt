-- What the proofs of several functions use.
pub mod Steps
pub mod Names
pub mod Writing
pub mod Bounds
pub mod Shapes
pub mod Marks
pub mod AssignFirst
pub mod AssignLast
pub mod Patterns
pub mod Turned
pub mod Declares
