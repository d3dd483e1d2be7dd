-- What the proofs of several functions use; all but Lists are also for callers.
mod Lists
pub mod Trees
pub mod Loops
pub mod Words
pub mod Apart
pub mod Splice
pub mod Rows
pub mod Walks
