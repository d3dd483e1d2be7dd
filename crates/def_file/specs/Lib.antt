pub mod Kinds
pub mod Script
pub mod Read
pub mod Write
pub mod Core
pub mod Named
