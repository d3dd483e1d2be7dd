pub mod Laws
pub mod Idents
pub mod Fates
pub mod Scopes
pub mod Assigns
