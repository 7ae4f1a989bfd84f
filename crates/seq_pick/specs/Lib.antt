pub mod Merging
pub mod Finding
pub mod Preparing
