pub mod Rounds
pub mod Tests
