pub mod Journals
pub mod Knowing
pub mod Promising
pub mod Ties
