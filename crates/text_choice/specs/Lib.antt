pub mod Trees
pub mod Choice
