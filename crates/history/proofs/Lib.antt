pub mod Correct
pub mod Existence
