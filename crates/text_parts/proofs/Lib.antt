pub mod Tests
pub mod Table
pub mod Whole
pub mod Begins
pub mod Put
pub mod Uses
