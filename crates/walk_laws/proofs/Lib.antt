pub mod Declrs
pub mod Heres
pub mod Idents
pub mod Laws
pub mod Rooms
pub mod Shorts
pub mod Ways
pub mod Shapes
