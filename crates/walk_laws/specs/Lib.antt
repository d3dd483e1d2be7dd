pub mod Did
pub mod Shape
