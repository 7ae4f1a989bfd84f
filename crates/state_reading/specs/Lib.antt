pub mod Recalls
pub mod Lines
pub mod Values
pub mod Settings
