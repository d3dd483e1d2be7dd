pub mod Names
pub mod Cores
pub mod Readings
pub mod Tables
pub mod Numbers
pub mod Raws
pub mod Strings
pub mod Fill
