pub mod Numbers
pub mod Nodes
pub mod Texts
pub mod Header
pub mod Round
