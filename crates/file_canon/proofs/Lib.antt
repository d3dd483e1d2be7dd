pub mod Numbers
pub mod Written
pub mod Formed
pub mod Ends
