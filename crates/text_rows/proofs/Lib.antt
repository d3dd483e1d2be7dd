pub mod Tests
pub mod Found
