pub mod Children
pub mod Causes
