pub mod Canon
pub mod Under
