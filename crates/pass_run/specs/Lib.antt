pub mod Inline
pub mod Run
pub mod Start
