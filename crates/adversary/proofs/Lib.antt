pub mod Blame
pub mod Refusing
