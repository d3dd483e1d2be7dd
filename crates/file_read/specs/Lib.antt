pub mod Idents
pub mod Head
pub mod Load
pub mod Reading
pub mod Table
pub mod Text
pub mod Child
