pub mod Stores
pub mod Backs
pub mod Laid
pub mod Tied
