pub mod Numbers
pub mod Laid
pub mod Listing
pub mod Going
pub mod Singles
pub mod Node
pub mod Defaults
pub mod Statements
