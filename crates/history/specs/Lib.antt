pub mod Protocols
pub mod Schedules
pub mod Runs
pub mod Claims
