pub mod Laws
pub mod Refusals
pub mod Rules
pub mod Lists
pub mod Counts
pub mod ListLaws
pub mod Search
pub mod ThresholdLaws
