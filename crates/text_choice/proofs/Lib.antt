pub mod Planted
pub mod Defaults
pub mod Openings
pub mod Passing
pub mod ByRow
pub mod Standing
