pub mod Look
pub mod Answers
pub mod Touched
pub mod Own
