pub mod Causes
pub mod Aborts
