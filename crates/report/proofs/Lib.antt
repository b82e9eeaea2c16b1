pub mod Few
pub mod Protecting
