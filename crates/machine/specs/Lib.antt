pub mod Replies
pub mod Machine
pub mod Deeds
pub mod Promise
