pub mod Rounds
pub mod Step
pub mod Theorems
