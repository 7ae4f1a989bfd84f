pub mod Compared
pub mod Messages
