pub mod Joining
pub mod Parting
