pub mod Masks
pub mod Counting
pub mod Covering
