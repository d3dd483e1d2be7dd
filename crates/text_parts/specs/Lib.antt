pub mod Parts
pub mod Claims
