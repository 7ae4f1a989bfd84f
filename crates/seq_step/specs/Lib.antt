pub mod Causes
pub mod Keeping
pub mod Settings
pub mod Finding
