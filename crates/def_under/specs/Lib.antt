pub mod Reading
pub mod Entry
pub mod Laws
pub mod Examples
